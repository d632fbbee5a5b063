-- Laws of `put` and `moved`. Both loops copy a list over another byte by byte, which is the library's `paste`.
use Rattle.std.specs.Prelude.{◌≡◌, ◌⊎◌, Bool, List, ◌++◌, ℕ, ◌+◌, ◌-◌, ◌≤◌, ◌<◌, get_or, set, if◌then◌else◌}
use Rattle.std.proofs.Math.Path.{refl}
use Rattle.std.proofs.Common.{sym, ap, ◌∙◌, ⊎_elim, add-one, take-append-drop, length-drop, drop-drop, take_at, drop_at, get_or-drop, take-add}
use Rattle.std.proofs.Math.Bool.{true, false}
use native.Mathlib.Omega.{arith}
use Rattle.std.proofs.Math.ListN.{length, take, drop, length-append}
use Rattle.std.proofs.Math.Seq.{paste, paste-suc, take-length, take-append_seam, length-take-le}
use Rattle.std.proofs.lemmas.List.Edits.{take-paste, drop-paste, length-paste}
use Rattle.std.proofs.lemmas.List.{drop-append-le, take-append-le}
use Rattle.std.proofs.Math.Dec.{leb}
use borrow.Author.Tests.{le-leb, lt-leb, leb-true, leb-false}
use Rattle.moves.specs.Moves.{put, moved}

module _ (m : List ℕ) (i : ℕ) (p : List ℕ) where
  pub put_none : length m < i + length p → m ≡ put m i p
  unfolding put
  put_none h = rw (lt-leb (i + length p) (length m) h)

  module _ (h : i + length p ≤ length m) where
    pub put_is : take i m ++ p ++ drop (i + length p) m ≡ put m i p
    unfolding put
    put_is = rw (le-leb (i + length p) (length m) h)

    pub put_all : paste m i p (length p) ≡ put m i p
    put_all = ap (λ (x : List ℕ). take i m ++ x ++ drop (i + length p) m) (take-length p) ∙ put_is

  -- the memory keeps its length
  pub put_length : length (put m i p) ≡ length m
  unfolding put
  put_length = go (leb (i + length p) (length m)) refl
    where
      go : (b : Bool) → leb (i + length p) (length m) ≡ b → length (if b then take i m ++ p ++ drop (i + length p) m else m) ≡ length m
      go true e =
          let g : i + length p ≤ length m = leb-true (i + length p) (length m) e in
          let k : i ≤ length m = omega arith in
          rw (length-append, length-append, length-take-le i m k, length-drop) (omega arith)
      go false e = refl

-- bytes of the first of two lists, one after the other
pub part_first : (x y : List ℕ) (a n : ℕ) → a + n ≤ length x → take n (drop a (x ++ y)) ≡ take n (drop a x)
part_first x y a n h =
    let u : a ≤ length x = omega arith in
    let v : n ≤ length (drop a x) = rw length-drop (omega arith) in
    rw (drop-append-le a x y u, take-append-le n (drop a x) y v)

module _ (m : List ℕ) (i : ℕ) (p : List ℕ) where
  -- what is put stands there
  pub put_there : i + length p ≤ length m → take (length p) (drop i (put m i p)) ≡ p
  put_there h =
      let u : length (take i m) ≡ i = length-take-le i m (omega arith) in
      let v : i ≤ length (take i m ++ p) = rw (length-append, u) (omega arith) in
      ap (λ (x : List ℕ). take (length p) (drop i x)) (sym (put_is m i p h))
      ∙ rw (drop-append-le i (take i m ++ p) (drop (i + length p) m) v, drop_at (take i m) p i u) (take-append_seam p (drop (i + length p) m))

  -- with the bytes before it as they were
  pub put_held : i + length p ≤ length m → take (i + length p) (put m i p) ≡ take i m ++ p
  put_held h = ap (take (i + length p)) (sym (put_all m i p h)) ∙ take-paste m i p (length p) (omega arith) (omega arith) ∙ ap (λ (x : List ℕ). take i m ++ x) (take-length p)

  -- and bytes elsewhere are what they were
  module _ (a n : ℕ) where
    fits_before : i + length p ≤ length m → a + n ≤ i → take n (drop a (put m i p)) ≡ take n (drop a m)
    fits_before h g =
        let u : length (take i m) ≡ i = length-take-le i m (omega arith) in
        let v : length (take i m ++ p) ≡ i + length p = rw (length-append, u) in
        ap (λ (x : List ℕ). take n (drop a x)) (sym (put_is m i p h))
        ∙ part_first (take i m ++ p) (drop (i + length p) m) a n (omega arith)
        ∙ part_first (take i m) p a n (omega arith)
        ∙ sym (part_first (take i m) (drop i m) a n (omega arith))
        ∙ ap (λ (x : List ℕ). take n (drop a x)) (take-append-drop i m)

    fits_behind : i + length p ≤ length m → i + length p ≤ a → take n (drop a (put m i p)) ≡ take n (drop a m)
    fits_behind h g =
        let e : i + length p + (a - (i + length p)) ≡ a = omega arith in
        let f : drop (i + length p) (put m i p) ≡ drop (i + length p) m = ap (drop (i + length p)) (sym (put_all m i p h)) ∙ drop-paste m i p (length p) (omega arith) (omega arith) in
        ap (λ (x : ℕ). take n (drop x (put m i p))) (sym e)
        ∙ ap (take n) (sym (drop-drop (a - (i + length p)) (i + length p) (put m i p)) ∙ ap (drop (a - (i + length p))) f ∙ drop-drop (a - (i + length p)) (i + length p) m)
        ∙ ap (λ (x : ℕ). take n (drop x m)) e

    pub put_elsewhere : (a + n ≤ i) ⊎ (i + length p ≤ a) → take n (drop a (put m i p)) ≡ take n (drop a m)
    put_elsewhere g = go (leb (i + length p) (length m)) refl
      where
        go : (b : Bool) → leb (i + length p) (length m) ≡ b → take n (drop a (put m i p)) ≡ take n (drop a m)
        go true e = let h = leb-true (i + length p) (length m) e in ⊎_elim (fits_before h) (fits_behind h) g
        go false e = ap (λ (x : List ℕ). take n (drop a x)) (sym (put_none m i p (leb-false (i + length p) (length m) e)))

module _ (b : List ℕ) (n e : ℕ) where
  pub moved_back : e < n → b ≡ moved b n e
  unfolding moved
  moved_back h = rw (lt-leb n e h)

  module _ (h : n ≤ e) where
    pub moved_past : length b < e → b ≡ moved b n e
    unfolding moved
    moved_past g = rw (le-leb n e h, lt-leb e (length b) g)

    module _ (g : e ≤ length b) where
      pub moved_is : take (e - n) (drop n b) ++ drop (e - n) b ≡ moved b n e
      unfolding moved
      moved_is = rw (le-leb n e h, le-leb e (length b) g)

      pub moved_all : paste b 0 (drop n b) (e - n) ≡ moved b n e
      moved_all = let i : 0 + (e - n) ≡ e - n = omega arith in ap (λ (k : ℕ). take (e - n) (drop n b) ++ drop k b) i ∙ moved_is

      -- the bytes from n up to e are at the front
      pub moved_held : take (e - n) (moved b n e) ≡ drop n (take e b)
      moved_held =
          let d : List ℕ = take (e - n) (drop n b) in
          let i : n + (e - n) ≡ e = omega arith in
          let l : length d ≡ e - n = length-take-le (e - n) (drop n b) (rw length-drop (omega arith)) in
          ap (take (e - n)) (sym moved_is)
          ∙ take_at d (drop (e - n) b) (e - n) l
          ∙ sym (drop_at (take n b) d n (length-take-le n b (omega arith)))
          ∙ ap (drop n) (sym (take-add n (e - n) b) ∙ ap (λ (k : ℕ). take k b) i)

  -- the memory keeps its length
  pub moved_length : length (moved b n e) ≡ length b
  moved_length = go (leb n e) (leb e (length b)) refl refl
    where
      go : (c d : Bool) → leb n e ≡ c → leb e (length b) ≡ d → length (moved b n e) ≡ length b
      go false d p q = ap length (sym (moved_back (leb-false n e p)))
      go true false p q = ap length (sym (moved_past (leb-true n e p) (leb-false e (length b) q)))
      go true true p q =
          let h : n ≤ e = leb-true n e p in
          let g : e ≤ length b = leb-true e (length b) q in
          ap length (sym (moved_all h g)) ∙ length-paste b 0 (drop n b) (e - n) (omega arith) (rw length-drop (omega arith))

-- bytes that are at the front already stay
pub moved_still : (b : List ℕ) (e : ℕ) → moved b 0 e ≡ b
moved_still b e = go (leb e (length b)) refl
  where
    go : (d : Bool) → leb e (length b) ≡ d → moved b 0 e ≡ b
    go true q = sym (moved_is b 0 e (omega arith) (leb-true e (length b) q)) ∙ take-append-drop (e - 0) b
    go false q = sym (moved_past b 0 e (omega arith) (leb-false e (length b) q))

-- one turn: what is copied so far, with one byte more
pub paste_more : (d : List ℕ) (at : ℕ) (l : List ℕ) (j x : ℕ) → x ≡ get_or l j 0 → at + j < length d → j < length l → set (paste d at l j) (at + j) x ≡ paste d at l (j + 1)
paste_more d at l j x e h g = rw (e, add-one) (paste-suc d at l j 0 h g)

pub front_more : (d l : List ℕ) (j x : ℕ) → x ≡ get_or l j 0 → j < length d → j < length l → set (paste d 0 l j) j x ≡ paste d 0 l (j + 1)
front_more d l j x e h g = let i : j ≡ 0 + j = omega arith in ap (λ (k : ℕ). set (paste d 0 l j) k x) i ∙ paste_more d 0 l j x e (omega arith) g

-- a byte that no turn has reached is what it was
pub paste_later : (d l : List ℕ) (j k : ℕ) → j ≤ length l → j ≤ k → get_or (paste d 0 l j) k 0 ≡ get_or d k 0
paste_later d l j k h g =
    let i : 0 + j + (k - j) ≡ k = omega arith in
    ap (λ (x : ℕ). get_or (paste d 0 l j) x 0) (sym i) ∙ sym (get_or-drop (0 + j) (paste d 0 l j) (k - j) 0) ∙ ap (λ (x : List ℕ). get_or x (k - j) 0) (drop-paste d 0 l j (omega arith) h) ∙ get_or-drop (0 + j) d (k - j) 0 ∙ ap (λ (x : ℕ). get_or d x 0) i
