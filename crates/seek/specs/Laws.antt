-- What lets a search pass over a block: where two of its bytes don't stand, or all bytes are above it, a text doesn't; and the skip, where all are spaces.
-- Rests on text's laws of `stands` and `find_in`, and its steps of `past`.
use Rattle.std.specs.Prelude.{Option, Some, None, ◌≡◌, refl, Bool, true, ◌||◌, List, [], ◌∷◌, length, leb}
use Rattle.std.proofs.Math.Path.{sym, ap}
use Rattle.std.proofs.Common.{◌∙◌, ⊎_elim, add-zero, drop-cons}
use Rattle.std.proofs.Math.Bool.{false}
use Prim.Native.Nat.{ℕ, zero, suc, ◌+◌, ◌*◌, ◌≤◌, ◌<◌, min}
use native.Mathlib.Omega.{arith}
use Rattle.std.proofs.Math.ListN.{get_or}
use borrow.Author.Tests.{eq-eqb, ne_eqb, leb-false}
use Rattle.text.specs.Logic.{false_true, not_true_false, and_both, order}
use Rattle.text.specs.Text.{among, blanks, is_blank, past, begins, stands, find_in}
use Rattle.text.specs.Steps.{past_more, past_stop, find_here, find_next}
use Rattle.text.specs.Bytes.{bytes}
use Rattle.text.specs.Laws.{Says, find_says, find_is, stands_byte, stands_get_d}
use Rattle.text.specs.declared.Blanks.TheVariants.{Space}
use Rattle.seek.specs.Seek.{both_at, space_at, any_of, all_of, NoneBelow, ColumnAbove, FirstIn}

pub or-false : (a b : Bool) → a || b ≡ false → (a ≡ false) × (b ≡ false)
or-false true b e = absurd (false_true refl e)
or-false false b e = (refl, e)

module _ (t s : List ℕ) (k l : ℕ) (h : k < length t) (g : l < length t) where
  -- what stands has both bytes
  both_stand : (i j : ℕ) → stands t s (i + j) ≡ true → both_at s (i + k) (get_or t k 0) (i + l) (get_or t l 0) j ≡ true
  unfolding both_at
  both_stand i j e =
      let a : i + k + j ≡ i + j + k = omega arith in
      let b : i + l + j ≡ i + j + l = omega arith in
      let p = eq-eqb (get_or s (i + k + j) 0) (get_or t k 0) (ap (λ (m : ℕ). get_or s m 0) a ∙ stands_get_d t s (i + j) k e h) in
      let q = eq-eqb (get_or s (i + l + j) 0) (get_or t l 0) (ap (λ (m : ℕ). get_or s m 0) b ∙ stands_get_d t s (i + j) l e g) in
      rw (p, q)

  -- n places from i on without the two bytes are passed over
  pub block_none : (i n : ℕ) → i + n ≤ length s → any_of (both_at s (i + k) (get_or t k 0) (i + l) (get_or t l 0)) n ≡ false → find_in t s i ≡ find_in t s (i + n)
  unfolding any_of
  block_none i zero w e = ap (find_in t s) (sym (add-zero i))
  block_none i (suc n) w e =
      let f = both_at s (i + k) (get_or t k 0) (i + l) (get_or t l 0) in
      let q = or-false (any_of f n) (f n) e in
      let z : stands t s (i + n) ≡ false = not_true_false (stands t s (i + n)) (λ p. false_true (both_stand i n p) q.1) in
      let m : i + n + 1 ≡ i + suc n = omega arith in
      block_none i n (omega arith) q.0 ∙ find_next t s (i + n) (omega arith) z ∙ ap (find_in t s) m

-- without its byte k a text doesn't stand
pub byte_none : (t s : List ℕ) (i k : ℕ) → k < length t → (get_or s (i + k) 0 ≡ get_or t k 0 → ⊥) → false ≡ stands t s i
byte_none t s i k h e = sym (not_true_false (stands t s i) (λ p. e (stands_get_d t s i k p h)))

-- one more column, where no column was low and this one isn't
pub column_more : (s : List ℕ) (a n : ℕ) (any : Bool) (m : ℕ) → (any ≡ false → (c : ℕ) → c < n → ColumnAbove s (a + c) 32 14) → ColumnAbove s (a + n) 32 m → any || leb m 13 ≡ false → (c : ℕ) → c < n + 1 → ColumnAbove s (a + c) 32 14
column_more s a n any m w q e c h =
    let f = or-false any (leb m 13) e in
    ⊎_elim
    (λ (p : c < n). w f.0 c p)
    (λ (p : n ≤ c). let z : c ≡ n = omega arith in rw z (λ i g. omega (arith, q i g, leb-false m 13 f.1)))
    (order c n)

-- a number's row and column
record Split (x : ℕ) : Type 0 where
  row : ℕ
  col : ℕ
  is : x ≡ row * 16 + col
  less : col < 16

split : (x : ℕ) → Split x
split zero = record { row = 0; col = 0; is = omega arith; less = omega arith }
split (suc x) =
    let z = split x in
    ⊎_elim
    (λ (p : z.col < 15). record { row = z.row; col = z.col + 1; is = omega (arith, z.is); less = omega arith })
    (λ (p : 15 ≤ z.col). record { row = z.row + 1; col = 0; is = omega (arith, z.is, z.less); less = omega arith })
    (order z.col 15)

-- where no column is low no byte is
pub columns_above : (s : List ℕ) (a : ℕ) → ((c : ℕ) → c < 16 → ColumnAbove s (a + c) 32 14) → NoneBelow s a 512 14
columns_above s a w = λ j h.
    let z = split j in
    let q = w z.col z.less z.row (omega (arith, z.is)) in
    let e : a + z.col + z.row * 16 ≡ a + j = omega (arith, z.is) in
    rw e at q

-- n places without the byte are passed over
none_passed : (b : ℕ) (s : List ℕ) (i n : ℕ) → i + n ≤ length s → ((j : ℕ) → j < n → get_or s (i + j) 0 ≡ b → ⊥) → find_in (b ∷ []) s i ≡ find_in (b ∷ []) s (i + n)
none_passed b s i zero w q = ap (find_in (b ∷ []) s) (sym (add-zero i))
none_passed b s i (suc n) w q =
    let z : stands (b ∷ []) s (i + n) ≡ false = not_true_false (stands (b ∷ []) s (i + n)) (λ p. q n (omega arith) (stands_byte b [] s (i + n) p).1.0) in
    let e : i + n + 1 ≡ i + suc n = omega arith in
    none_passed b s i n (omega arith) (λ j g. q j (omega arith)) ∙ find_next (b ∷ []) s (i + n) (omega arith) z ∙ ap (find_in (b ∷ []) s) e

-- where the bytes are above it, they are
pub above_none : (b : ℕ) (s : List ℕ) (i n m : ℕ) → i + n ≤ length s → b < m → NoneBelow s i n m → find_in (b ∷ []) s i ≡ find_in (b ∷ []) s (i + n)
above_none b s i n m w h q = none_passed b s i n w (λ j g e. absurd (omega (arith, q j g, e)))

-- the search from a place between two with the same answer
between : (t s : List ℕ) (i e r : ℕ) → i ≤ e → e ≤ r → find_in t s i ≡ find_in t s r → find_in t s i ≡ find_in t s e
between t s i e r h g w = sym (find_is t s e (find_in t s i) (go (find_in t s i) (find_says t s i) (rw w (find_says t s r))))
  where
    go : (x : Option ℕ) → Says t s i x → Says t s r x → Says t s e x
    go (Some p) a b = record { after = omega (arith, b.after); here = a.here; first = λ j l m. a.first j (omega arith) m }
    go None a b = λ j l. a j (omega arith)

-- a text of one byte, where that byte is
pub byte_here : (b : ℕ) (s : List ℕ) (i : ℕ) → i < length s → get_or s i 0 ≡ b → find_in (b ∷ []) s i ≡ Some i
unfolding stands begins
byte_here b s i h e = find_here (b ∷ []) s i (rw (drop-cons s i 0 h, eq-eqb (get_or s i 0) b e))

-- and where another is
pub byte_not : (b : ℕ) (s : List ℕ) (i : ℕ) → i < length s → (get_or s i 0 ≡ b → ⊥) → find_in (b ∷ []) s i ≡ find_in (b ∷ []) s (i + 1)
byte_not b s i h e = find_next (b ∷ []) s i h (not_true_false (stands (b ∷ []) s i) (λ p. e (stands_byte b [] s i p).1.0))

-- what the first CR among n bytes tells the search
module _ (s : List ℕ) (a n m : ℕ) (w : FirstIn s a n m) (h : a + n ≤ length s) (g : n ≤ 255) where
  pub first_none : m ≡ 255 → find_in (bytes "\r") s a ≡ find_in (bytes "\r") s (a + n)
  first_none e = none_passed 13 s a n h (λ j l. w.none j l (omega (arith, e)))

  pub first_found : (m ≡ 255 → ⊥) → find_in (bytes "\r") s a ≡ Some (a + m)
  first_found e = ⊎_elim (λ (z : m ≡ 255). absurd (e z)) (λ (z : (m < n) × (get_or s (a + m) 0 ≡ 13)). none_passed 13 s a m (omega (arith, z.0)) (λ j l. w.none j (omega (arith, z.0)) l) ∙ byte_here 13 s (a + m) (omega (arith, z.0)) z.1) w.there

-- the answer from i on is that from p on, and from the less of p and e
pub less_same : (t s : List ℕ) (i p e r : ℕ) → i ≤ e → find_in t s i ≡ find_in t s p → r ≡ min p e → find_in t s i ≡ find_in t s r
less_same t s i p e r h w q =
    ⊎_elim
    (λ (g : p < e). let z : r ≡ p = omega arith in rw z w)
    (λ (g : e ≤ p). let z : r ≡ e = omega arith in rw z (between t s i e p h g w))
    (order p e)

-- n spaces from i on are passed over
pub spaces_all : (s : List ℕ) (i n : ℕ) → i + n ≤ length s → all_of (space_at s i) n ≡ true → past (is_blank Space) s i ≡ past (is_blank Space) s (i + n)
unfolding all_of space_at
spaces_all s i zero w e = ap (past (is_blank Space) s) (sym (add-zero i))
spaces_all s i (suc n) w e =
    let q = and_both (all_of (space_at s i) n) (space_at s i n) e in
    let z : is_blank Space (get_or s (i + n) 0) ≡ true = unfold is_blank among blanks in rw q.1 in
    let m : i + n + 1 ≡ i + suc n = omega arith in
    spaces_all s i n (omega arith) q.0 ∙ past_more (is_blank Space) s (i + n) (omega arith) z ∙ ap (past (is_blank Space) s) m

-- where no space is, the spaces end
pub no_space : (s : List ℕ) (i : ℕ) → i < length s → (get_or s i 0 ≡ 32 → ⊥) → past (is_blank Space) s i ≡ i
no_space s i h e = past_stop (is_blank Space) s i h (unfold is_blank among blanks in rw (ne_eqb (get_or s i 0) 32 e))
