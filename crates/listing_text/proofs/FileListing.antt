-- The listing of a file's bytes, by what reading them into tables of 64 words answered. Assumes nothing.
use mathlib.Core.Path.{◌≡◌, refl, sym, ap, ap₂, ◌∙◌}
use mathlib.Core.Logic.{◌≢◌}
use mathlib.Core.List.{List, ◌++◌}
use Prim.Native.Nat.{ℕ, ◌+◌, ◌*◌, ◌≤◌}
use native.Mathlib.Omega.{arith}
use native.Mathlib.Decide.{ℕ_discrete}
use lib.ListN.{length, take, drop, replicate}
use Rattle.model.specs.declared.Edition.{Edition}
use Rattle.model.specs.declared.ReadAnswer.{ReadAnswer}
use Rattle.model.specs.Rota.{table_code}
use Rattle.model.specs.Plans.{plans}
use Rattle.model.specs.Refusal.{unless, or_else}
use Rattle.model.specs.File.{file_code, items_in, slots_in, opens_in, callouts_in}
use Rattle.model.specs.FileAnswers.{read_code, read_answer, read_opens, read_callouts}
use Rattle.model.specs.ListingText.{refused_word, number_line, refused_line, listing_of, listing_text}
use Rattle.model.proofs.Accepted.{tables-from}
use Rattle.model.proofs.Refusals.{or-first, or_later, room_enough, refused-answer, accepted-answer}
use Rattle.model.proofs.Codes.{read-code}
use Rattle.model.proofs.Editions.{one_slots}
use Rattle.model.proofs.Files.{accepted-file}
use Rattle.model.proofs.RoundTrips.{opens_read, callouts_read, opens-room, callouts-room}
use Rattle.model.proofs.ListingLength.{listing-length}
use Rattle.listing_text.specs.declared.Page.{Page}
use Rattle.listing_text.specs.Writing.{RoomFor, Put, Wrote}
use Rattle.listing_text.proofs.FirstSteps.{refused_is}

-- 64 words are enough for any file
all_read : (file : List ℕ) → read_code Edition.One file 64 64 ≡ file_code Edition.One file
unfolding read_code
all_read file = elim (ℕ_discrete (file_code Edition.One file) 0) [
  | yes z ↦
      let t = tables-from _ _ _ _ (accepted-file Edition.One file z) in
      let room = room_enough 64 (items_in file) t.few-items in
      or_later _ _ z ∙ ap₂ or_else room room ∙ or_later 0 0 refl ∙ sym z
  | no d ↦ or-first _ _ d
]

-- the definition's equation, so that no proof opens a number's digits
text_is : (file : List ℕ) → listing_text Edition.One file
    ≡ unless refused_line (file_code Edition.One file) (listing_of (items_in file) (callouts_in file) (plans (slots_in Edition.One file) (opens_in file)))
unfolding listing_text
text_is file = refl

-- a page of room for every listing
pub listing_room : (file : List ℕ) (page : List ℕ) → 8 + 1000 * 203 + 10 ≤ length page → 0 + length (listing_text Edition.One file) ≤ length page
listing_room file page h = omega (arith, listing-length Edition.One file)

-- a page of which nothing was written
pub put_wrote : (text : List ℕ) (p q : Page) → p.at ≡ 0 → Put text p q → Wrote text p.out.now q.out.now q.at
put_wrote text p q z w =
    let size : p.at + length text ≡ q.at = sym w.at in
    record {
      bytes = w.bytes ∙ ap₂ (λ a b. take a p.out.now ++ (text ++ drop b p.out.now)) z size;
      size = omega (arith, w.at);
    }

module _ (file : List ℕ) (r : ReadAnswer) (read : r ≡ read_answer Edition.One file 64 64) (p : Page)
    (room : RoomFor (listing_text Edition.One file) p) where
  code_is : r.code ≡ file_code Edition.One file
  code_is = ap (λ (x : ReadAnswer). x.code) read ∙ read-code Edition.One file 64 64 ∙ all_read file

  module _ (d : r.code ≢ 0) where
    refused_text : listing_text Edition.One file ≡ number_line refused_word r.code
    refused_text = text_is file ∙ sym (refused-answer r.code (file_code Edition.One file) d (sym code_is) refused_line _) ∙ refused_is r.code

    pub refusal_fits : RoomFor (number_line refused_word r.code) p
    refusal_fits = rw refused_text at room

    pub refusal_written : {q : Page} → Put (number_line refused_word r.code) p q → Put (listing_text Edition.One file) p q
    refusal_written w = rw refused_text w

  module _ (z : r.code ≡ 0) (o k : List ℕ) (to : o ≡ read_opens Edition.One file (replicate 64 0) (replicate 64 0))
      (tk : k ≡ read_callouts Edition.One file (replicate 64 0) (replicate 64 0)) where
    abbrev opens : List ℕ
    opens = take r.n o

    abbrev callouts : List ℕ
    callouts = take r.n k

    accepted : table_code (items_in file) (slots_in Edition.One file) (opens_in file) (callouts_in file) ≡ 0
    accepted = accepted-file Edition.One file (sym code_is ∙ z)

    opens_are : opens ≡ opens_in file
    opens_are = opens_read Edition.One file (replicate 64 0) (replicate 64 0) r read z o to

    callouts_are : callouts ≡ callouts_in file
    callouts_are = callouts_read Edition.One file (replicate 64 0) (replicate 64 0) r read z k tk

    items_are : length opens ≡ items_in file
    items_are = ap length opens_are ∙ (tables-from _ _ _ _ accepted).open_words

    slots_are : length opens ≡ slots_in Edition.One file
    slots_are = items_are ∙ sym (one_slots file)

    -- both tables have room for the words
    pub opens_long : r.n ≤ length o
    opens_long = opens-room Edition.One file (replicate 64 0) (replicate 64 0) r read z o to

    pub callouts_long : r.n ≤ length k
    callouts_long = callouts-room Edition.One file (replicate 64 0) (replicate 64 0) r read z k tk

    pub rota_accepted : table_code (length opens) (length opens) opens callouts ≡ 0
    rota_accepted = ap₂ (λ n m. table_code n m opens callouts) items_are slots_are ∙ ap₂ (table_code _ _) opens_are callouts_are ∙ accepted

    rota_text : listing_text Edition.One file ≡ listing_of (length opens) callouts (plans (length opens) opens)
    rota_text =
        text_is file ∙ sym (accepted-answer (file_code Edition.One file) (sym code_is ∙ z) refused_line _)
        ∙ sym (ap₂ (λ n m. listing_of n callouts (plans m opens)) items_are slots_are
        ∙ ap₂ (λ x y. listing_of (items_in file) y (plans (slots_in Edition.One file) x)) opens_are callouts_are)

    pub rota_fits : RoomFor (listing_of (length opens) callouts (plans (length opens) opens)) p
    rota_fits = rw rota_text at room

    pub rota_written : {q : Page} → Put (listing_of (length opens) callouts (plans (length opens) opens)) p q
        → Put (listing_text Edition.One file) p q
    rota_written w = rw rota_text w
