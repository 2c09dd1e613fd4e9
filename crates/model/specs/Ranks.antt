-- A plan by its number, and a plan's number, which is how many complete plans stand before it. Assumes nothing.
use Rattle.std.specs.Prelude.{List, [], ℕ, length, get_or}
use Rattle.model.specs.Lists.{keep, before}
use Rattle.model.specs.Plans.{plans}

-- plan number k, from 0
unfoldable pub unrank : ℕ → List ℕ → ℕ → List ℕ
unfolding plans
unrank m opens k = get_or (plans m opens) k []

-- the number of p
unfoldable pub rank : ℕ → List ℕ → List ℕ → ℕ
unfolding keep before plans
rank m opens p = length (keep (λ q. before q p) (plans m opens))
