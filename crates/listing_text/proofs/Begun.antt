-- A text that is written part by part. Assumes nothing.
use mathlib.Core.Path.{◌≡◌, refl, sym, ap, ap₂, ◌∙◌, subst}
use mathlib.Core.List.{List, [], ◌++◌, append_assoc, append-nil}
use Prim.Native.Nat.{ℕ, ◌+◌}
use native.Mathlib.Nat.{add-zero}
use native.Mathlib.Omega.{arith}
use lib.ListN.{length, take, drop, take-append-drop, length-append, length-drop}
use lib.Seq.{take_at, drop_at, drop-drop, length-take-le}
use Rattle.listing_text.specs.declared.Page.{Page}
use Rattle.listing_text.specs.Writing.{RoomFor, Put, Wrote}

put_none : (p : Page) → Put [] p p
put_none p = record {
  bytes = sym (ap (λ k. take p.at p.out.now ++ drop k p.out.now) (add-zero p.at) ∙ take-append-drop p.at p.out.now);
  at = sym (add-zero p.at);
  same = refl;
}

module _ {x : List ℕ} {p q : Page} (w : Put x p q) (room : RoomFor x p) where
  front-length : length (take p.at p.out.now) ≡ p.at
  front-length = length-take-le p.at p.out.now (omega arith)

  put_length : length q.out.now ≡ length p.out.now
  put_length =
      let past = drop (p.at + length x) p.out.now in
      omega (
        arith,
        ap length w.bytes,
        length-append (take p.at p.out.now) (x ++ past),
        length-append x past,
        front-length,
        length-drop (p.at + length x) p.out.now,
      )

  -- one text behind the other
  put_both : {y : List ℕ} {r : Page} → Put y q r → Put (x ++ y) p r
  put_both {y} {r} v =
      let a = take p.at p.out.now in
      let past = drop (p.at + length x) p.out.now in
      let whole : q.out.now ≡ (a ++ x) ++ past = w.bytes ∙ sym (append_assoc a x past) in
      let size : length (a ++ x) ≡ q.at = omega (arith, length-append a x, front-length, w.at) in
      let before : take q.at q.out.now ≡ a ++ x = ap (take q.at) whole ∙ take_at (a ++ x) past q.at size in
      let all : p.at + length (x ++ y) ≡ (p.at + length x) + length y = omega (arith, length-append x y) in
      let behind : drop (q.at + length y) q.out.now ≡ drop (p.at + length (x ++ y)) p.out.now =
      sym (drop-drop (length y) q.at q.out.now) ∙ ap (drop (length y)) (ap (drop q.at) whole ∙ drop_at (a ++ x) past q.at size)
      ∙ drop-drop (length y) (p.at + length x) p.out.now ∙ ap (λ k. drop k p.out.now) (sym all) in
      record {
        bytes = v.bytes ∙ ap₂ (λ f b. f ++ (y ++ b)) before behind ∙ append_assoc a x (y ++ drop (p.at + length (x ++ y)) p.out.now)
            ∙ ap (a ++◌) (sym (append_assoc x y (drop (p.at + length (x ++ y)) p.out.now)));
        at = v.at ∙ ap (◌+ length y) w.at ∙ sym all;
        same = v.same ∙ w.same;
      }

-- the text is written but for `rest`
pub record Begun (text rest : List ℕ) (p q : Page) : Type 0 where
  pub written : List ℕ
  pub front : text ≡ written ++ rest
  pub put : Put written p q
  pub room : RoomFor text p

-- nothing yet
pub begin : {text : List ℕ} {p : Page} → RoomFor text p → Begun text text p p
begin {p = p} h = record { written = []; front = refl; put = put_none p; room = h }

module _ {text : List ℕ} {p q : Page} where
  module _ (x rest : List ℕ) (w : Begun text (x ++ rest) p q) where
    parts : length text ≡ length w.written + (length x + length rest)
    parts = omega (arith, ap length w.front, length-append w.written (x ++ rest), length-append x rest)

    front-room : RoomFor w.written p
    front-room = omega (arith, w.room, parts)

    -- there is room for the next part
    pub fits : RoomFor x q
    fits = omega (arith, w.room, parts, w.put.at, put_length w.put front-room)

    -- and it is written
    pub more : {r : Page} → Put x q r → Begun text rest p r
    more v = record {
      written = w.written ++ x;
      front = w.front ∙ sym (append_assoc w.written x rest);
      put = put_both w.put front-room v;
      room = w.room;
    }

  -- all of it
  pub done : Begun text [] p q → Put text p q
  done w = subst (λ l. Put l p q) (sym (w.front ∙ append-nil w.written)) w.put

-- the last part
module _ {text : List ℕ} {p q : Page} (x : List ℕ) (w : Begun text x p q) where
  ends : Begun text (x ++ []) p q
  ends = subst (λ l. Begun text l p q) (sym (append-nil x)) w

  pub fits_last : RoomFor x q
  fits_last = fits x [] ends

  pub last : {r : Page} → Put x q r → Put text p r
  last v = done (more x [] ends v)

-- a copy of bytes over the front writes them
pub copy_wrote : (word : List ℕ) {old part : List ℕ} → part ≡ word → Wrote word old (part ++ drop (length word) old) (length word)
copy_wrote word {old} e = record { bytes = ap (◌++ drop (length word) old) e; size = refl }
