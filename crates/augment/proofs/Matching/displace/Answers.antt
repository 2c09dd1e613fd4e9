-- The item takes the slot that `vacate` has freed. Assumes nothing.
use Rattle.std.proofs.Common.{rules}
use Rattle.augment.proofs.Searches.{displace_vacatable, displace_barred, displace_takeable, displace_assigned}
use Rattle.augment.proofs.Matching.displace.Goals as goal

pub vacate-requires : goal.vacate-requires
vacate-requires c = displace_vacatable c.requires.assignable c.requires.none

pub returns-in_err-k-clause-none : goal.returns-in_err-k-clause-none
returns-in_err-k-clause-none c = let b = displace_barred c.requires.assignable c.in_err-k.ensures.none in search rules

pub take-requires : goal.take-requires
take-requires c = displace_takeable c.requires.assignable c.in_ok-k.ensures.found

pub returns-clause-found : goal.returns-clause-found
returns-clause-found c = displace_assigned c.requires.assignable c.in_ok-k.ensures.found c.take.ensures
