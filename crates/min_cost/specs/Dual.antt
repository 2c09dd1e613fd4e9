-- The duals of the fewest callouts. w are the open words, c the callout words, u the items' duals less 1, v the slots' duals,
-- t the words of tight cells, l the levels: word x of l has the slots with v = x. Assumes nothing.
use Rattle.std.specs.Prelude.{◌≡◌, ◌⊎◌, List, ℕ, ◌+◌, ◌-◌, ◌^◌, ◌≤◌, ◌<◌, length, get_or}
use Rattle.std.specs.Int.Bits.{bit_and}
use Rattle.words.specs.Word.{bit, select}
use Rattle.model.specs.Plans.{IsPlan}
use Rattle.model.specs.Fewest.{callouts_of}
use Rattle.model.specs.Lists.{Before}

-- as many slots as items
pub record Square (w c : List ℕ) : Type 0 where
  pub few : length w ≤ 64
  pub same : length c ≡ length w
  pub below : (i : ℕ) → i < length w → get_or w i 0 < 2 ^ length w

-- 1 if a is b, else 0 (Kronecker)
abbrev pub delta : ℕ → ℕ → ℕ
delta a b = 1 - ((a - b) + (b - a))

-- ---- levels

pub record Levels (l : List ℕ) (v : ℕ → ℕ) : Type 0 where
  pub sized : length l ≡ 66
  pub word : (x k : ℕ) → x < 66 → k < 64 → bit (get_or l x 0) k ≡ delta (v k) x

-- v grows by 1 on the slots of d
abbrev pub Lifted : List ℕ → ℕ → List ℕ → Type 0
Lifted l d l' = (v : ℕ → ℕ) → Levels l v → Levels l' (λ k. v k + bit d k)

-- ---- tight cells

-- an item's word: callouts cost 1 more
unfoldable pub tight_word : List ℕ → ℕ → ℕ → ℕ → ℕ
tight_word l cells calls u = bit_and cells (select (get_or l (u + 1) 0) calls (get_or l u 0))

pub record Raisable (w c l u t : List ℕ) (up : ℕ) : Type 0 where
  pub few : length w ≤ 64
  pub same : length c ≡ length w
  pub levels : length l ≡ 66
  pub item_duals : length u ≡ 64
  pub words : length t ≡ length w
  pub room : (i : ℕ) → i < length w → get_or u i 0 + bit up i ≤ 64

pub record Raised (w c l u : List ℕ) (up : ℕ) (u' t' : List ℕ) : Type 0 where
  pub range : (i : ℕ) → i < length w → get_or c i 0 < 2 ^ 64
  pub item_duals : length u' ≡ 64
  pub words : length t' ≡ length w
  pub item_dual : (i : ℕ) → i < length w → get_or u' i 0 ≡ get_or u i 0 + bit up i
  pub word : (i : ℕ) → i < length w → get_or t' i 0 ≡ tight_word l (get_or w i 0) (get_or c i 0) (get_or u i 0 + bit up i)

-- ---- the plan

-- p is the first plan with r callouts, and none has fewer
pub record Cheapest (w c p : List ℕ) (r : ℕ) : Type 0 where
  pub plan : IsPlan w p
  pub number : callouts_of c p ≡ r
  pub fewer : (q : List ℕ) → IsPlan w q → r ≤ callouts_of c q
  pub first : (q : List ℕ) → IsPlan w q → callouts_of c q ≡ r → (q ≡ p) ⊎ Before p q
