-- CONNECT lines (R-3): the first place is the least of either line's (`least_connect`), and where the first one is no line, none is further on (`connect_none`):
-- a longer line without its last CRLF has no CRLF behind it.
use Rattle.std.proofs.Math.Path.{◌≡◌, refl, sym, ap}
use Rattle.std.proofs.Common.{Option, Some, None, ◌∙◌, eq-or-lt_of_le, arith}
use Rattle.std.specs.Prelude.{◌⊎◌, Bool, ◌&&◌, ◌||◌, List, [], ◌∷◌, ℕ, zero, suc, ◌+◌, ◌-◌, ◌≤◌, ◌<◌, length, get_or, drop, if◌then◌else◌}
use Rattle.std.proofs.Math.Logic.{inl, inr, ⊎_elim}
use Rattle.std.proofs.Math.Bool.{true, false}
use Rattle.std.proofs.Math.Dec.{leb}
use borrow.Author.Tests.{leb-true, leb-false}
use Rattle.text.specs.Bytes.{bytes}
use Rattle.text.specs.Logic.{false_true, not_true_false, and_both, order}
use Rattle.text.specs.Text.{stands, find_in}
use Rattle.text.specs.Laws.{found_at, found_none, stands_byte, stands_drop, stands_fits, stands_front, stands_get_d}
use Rattle.lines.specs.Lines.{hears_text, crlf, fixed_text, earlier, connect_place}
use Rattle.lines.specs.declared.Digester.{Digester}
use Rattle.lines.specs.declared.Fixed.TheVariants as fixed
use Rattle.items.specs.Rules.{through_crlf, connect_at, first_connect, connected, connect_success}
use Rattle.items.specs.Laws.{done_next}
use Rattle.items.specs.Says.{find_lost}

-- does a CONNECT line begin at k, whether it ends or not?
abbrev pub begun : Digester → List ℕ → ℕ → Bool
begun d s k = stands (fixed_text fixed.Connect) s k || (hears_text d && stands (fixed_text fixed.ConnectText) s k)

-- k is the least place at or after e at which one begins
pub record Least (d : Digester) (s : List ℕ) (e k : ℕ) : Type 0 where
  pub after : e ≤ k
  pub here : begun d s k ≡ true
  pub first : (j : ℕ) → e ≤ j → j < k → begun d s j ≡ false

abbrev pub LeastSays : Digester → List ℕ → ℕ → Option ℕ → Type 0
LeastSays d s e (Some k) = Least d s e k
LeastSays d s e None = (j : ℕ) → e ≤ j → begun d s j ≡ false

module _ (d : Digester) (s : List ℕ) where
  abbrev bare_at : ℕ → Bool
  bare_at k = stands (fixed_text fixed.Connect) s k

  abbrev text_at : ℕ → Bool
  text_at k = stands (fixed_text fixed.ConnectText) s k

  begun_bare : (k : ℕ) → bare_at k ≡ true → begun d s k ≡ true
  begun_bare k h = rw h

  begun_text : (k : ℕ) → hears_text d ≡ true → text_at k ≡ true → begun d s k ≡ true
  begun_text k h g = go (bare_at k)
    where
      go : (b : Bool) → b || (hears_text d && text_at k) ≡ true
      go true = refl
      go false = rw (h, g)

  unbegun : (k : ℕ) → bare_at k ≡ false → (hears_text d ≡ true → text_at k ≡ false) → begun d s k ≡ false
  unbegun k h g = rw h (go (hears_text d) refl)
    where
      go : (b : Bool) → hears_text d ≡ b → b && text_at k ≡ false
      go true q = g q
      go false q = refl

  pub least_connect : (e : ℕ) → LeastSays d s e (first_connect d s e)
  unfolding first_connect connect_place earlier
  least_connect e = go (hears_text d) refl (find_in (fixed_text fixed.Connect) s e) refl (find_in (fixed_text fixed.ConnectText) s e) refl
    where
      either : (j k : ℕ) → hears_text d ≡ true → find_in (fixed_text fixed.Connect) s e ≡ Some j → find_in (fixed_text fixed.ConnectText) s e ≡ Some k → (b : Bool) → leb j k ≡ b → LeastSays d s e (if b then Some j else Some k)
      either j k h p q true l =
          let v = found_at (fixed_text fixed.Connect) s e j p in
          let w = found_at (fixed_text fixed.ConnectText) s e k q in
          record { after = v.after; here = begun_bare j v.here; first = λ i a b. unbegun i (v.first i a b) (λ z. w.first i a (omega (arith, leb-true j k l))) }
      either j k h p q false l =
          let v = found_at (fixed_text fixed.Connect) s e j p in
          let w = found_at (fixed_text fixed.ConnectText) s e k q in
          record { after = w.after; here = begun_text k h w.here; first = λ i a b. unbegun i (v.first i a (omega (arith, leb-false j k l))) (λ z. w.first i a b) }

      go : (b : Bool) → hears_text d ≡ b → (x : Option ℕ) → find_in (fixed_text fixed.Connect) s e ≡ x → (y : Option ℕ) → find_in (fixed_text fixed.ConnectText) s e ≡ y → LeastSays d s e (if b then earlier x y else x)
      go true h (Some j) p (Some k) q = either j k h p q (leb j k) refl
      go true h (Some j) p None q =
          let v = found_at (fixed_text fixed.Connect) s e j p in
          record { after = v.after; here = begun_bare j v.here; first = λ i a b. unbegun i (v.first i a b) (λ z. found_none (fixed_text fixed.ConnectText) s e q i a) }
      go true h None p (Some k) q =
          let w = found_at (fixed_text fixed.ConnectText) s e k q in
          record { after = w.after; here = begun_text k h w.here; first = λ i a b. unbegun i (found_none (fixed_text fixed.Connect) s e p i a) (λ z. w.first i a b) }
      go true h None p None q = λ i a. unbegun i (found_none (fixed_text fixed.Connect) s e p i a) (λ z. found_none (fixed_text fixed.ConnectText) s e q i a)
      go false h (Some j) p y q =
          let v = found_at (fixed_text fixed.Connect) s e j p in
          record { after = v.after; here = begun_bare j v.here; first = λ i a b. unbegun i (v.first i a b) (λ z. absurd (false_true z h)) }
      go false h None p y q = λ i a. unbegun i (found_none (fixed_text fixed.Connect) s e p i a) (λ z. absurd (false_true z h))

  -- What stands at a place: the bare line; or the longer one, which isn't the bare one too.
  pub connect_bare : (k : ℕ) → bare_at k ≡ true → connect_at d s k ≡ Some (k + 11)
  unfolding connect_at
  connect_bare k h = rw h

  text_not_bare : (k : ℕ) → text_at k ≡ true → bare_at k ≡ false
  text_not_bare k h = not_true_false (bare_at k) (λ g. omega (arith, stands_get_d (fixed_text fixed.Connect) s k 9 g (omega arith), stands_get_d (fixed_text fixed.ConnectText) s k 9 h (omega arith)))

  pub connect_text : (k : ℕ) → hears_text d ≡ true → text_at k ≡ true → connect_at d s k ≡ through_crlf (find_in crlf s (k + 10))
  unfolding connect_at
  connect_text k h g = rw (text_not_bare k g, h, g)

  -- what begins at k and isn't bare has text
  pub connect_begun : (k : ℕ) → begun d s k ≡ true → bare_at k ≡ false → connect_at d s k ≡ through_crlf (find_in crlf s (k + 10))
  connect_begun k h g = let w = and_both (hears_text d) (text_at k) (rw g at h) in connect_text k w.0 w.1

  pub begun_fits : (k : ℕ) → begun d s k ≡ true → k + 10 ≤ length s
  begun_fits k h = go (bare_at k) refl h
    where
      go : (a : Bool) → bare_at k ≡ a → a || (hears_text d && text_at k) ≡ true → k + 10 ≤ length s
      go true p z = omega (arith, stands_fits (fixed_text fixed.Connect) s k (omega arith) p)
      go false p z = stands_fits (fixed_text fixed.ConnectText) s k (omega arith) (and_both (hears_text d) (text_at k) z).1

  pub connect_not : (k : ℕ) → begun d s k ≡ false → connect_at d s k ≡ None
  unfolding connect_at
  connect_not k h = go (bare_at k) (hears_text d && text_at k) h
    where
      go : (a b : Bool) → a || b ≡ false → (if a then Some (k + 11) else if b then through_crlf (find_in crlf s (k + 10)) else None) ≡ None
      go true b z = absurd (false_true refl z)
      go false true z = absurd (false_true refl z)
      go false false z = refl

  -- a longer line: its head stands at k, and the first CRLF behind it at q
  pub record TextAt (k end : ℕ) : Type 0 where
    pub hears : hears_text d ≡ true
    pub head : text_at k ≡ true
    pub q : ℕ
    pub found : find_in crlf s (k + 10) ≡ Some q
    pub ends : end ≡ q + 2

  pub connect_told : (k end : ℕ) → connect_at d s k ≡ Some end → ((bare_at k ≡ true) × (end ≡ k + 11)) ⊎ TextAt k end
  unfolding connect_at through_crlf
  connect_told k end e = go (bare_at k) refl (hears_text d) refl (text_at k) refl (find_in crlf s (k + 10)) refl e
    where
      go : (a : Bool) → bare_at k ≡ a → (b : Bool) → hears_text d ≡ b → (c : Bool) → text_at k ≡ c → (r : Option ℕ) → find_in crlf s (k + 10) ≡ r → (if a then Some (k + 11) else if b && c then through_crlf r else None) ≡ Some end → ((bare_at k ≡ true) × (end ≡ k + 11)) ⊎ TextAt k end
      go true h b p c q r x z = let y : k + 11 ≡ end = cc in inl (h, sym y)
      go false h true p true q (Some n) x z = let y : n + 2 ≡ end = cc in inr (record { hears = p; head = q; q = n; found = x; ends = sym y })
      go false h true p true q None x z = cc
      go false h true p false q r x z = cc
      go false h false p c q r x z = cc

  pub connect_room : (k end : ℕ) → connect_at d s k ≡ Some end → (k + 11 ≤ end) × (end ≤ length s)
  connect_room k end e =
      ⊎_elim
      (λ (w : (bare_at k ≡ true) × (end ≡ k + 11)). (omega (arith, w.1), omega (arith, w.1, stands_fits (fixed_text fixed.Connect) s k (omega arith) w.0)))
      (λ (w : TextAt k end).
      let v = found_at crlf s (k + 10) w.q w.found in
      (omega (arith, v.after, w.ends), omega (arith, w.ends, stands_fits crlf s w.q (omega arith) v.here)))
      (connect_told k end e)

  -- Within a longer line's head there is no CR but its first byte.
  head_byte : (i : ℕ) → 0 < i → i < 10 → get_or (fixed_text fixed.ConnectText) i 0 ≡ 13 → ⊥
  head_byte zero h g e = omega arith
  head_byte (suc zero) h g e = omega arith
  head_byte (suc (suc zero)) h g e = omega arith
  head_byte (suc (suc (suc zero))) h g e = omega arith
  head_byte (suc (suc (suc (suc zero)))) h g e = omega arith
  head_byte (suc (suc (suc (suc (suc zero))))) h g e = omega arith
  head_byte (suc (suc (suc (suc (suc (suc zero)))))) h g e = omega arith
  head_byte (suc (suc (suc (suc (suc (suc (suc zero))))))) h g e = omega arith
  head_byte (suc (suc (suc (suc (suc (suc (suc (suc zero)))))))) h g e = omega arith
  head_byte (suc (suc (suc (suc (suc (suc (suc (suc (suc zero))))))))) h g e = omega arith
  head_byte (suc (suc (suc (suc (suc (suc (suc (suc (suc (suc i)))))))))) h g e = omega arith

  pub behind_head : (k j : ℕ) → text_at k ≡ true → k < j → stands crlf s j ≡ true → k + 10 ≤ j
  behind_head k j h g c =
      ⊎_elim
      (λ (l : j < k + 10).
      let i : k + (j - k) ≡ j = omega arith in
      absurd (head_byte (j - k) (omega arith) (omega arith) (sym (stands_get_d (fixed_text fixed.ConnectText) s k (j - k) h (omega arith)) ∙ ap (λ (n : ℕ). get_or s n 0) i ∙ (stands_byte 13 (10 ∷ []) s j c).1.0)))
      (λ (l : k + 10 ≤ j). l)
      (order j (k + 10))

  -- a CONNECT line begins with CRLF
  begun_crlf : (k : ℕ) → begun d s k ≡ true → stands crlf s k ≡ true
  begun_crlf k h = go (bare_at k) refl (hears_text d) (text_at k) refl h
    where
      go : (a : Bool) → bare_at k ≡ a → (b c : Bool) → text_at k ≡ c → a || (b && c) ≡ true → stands crlf s k ≡ true
      go true p b c q z = stands_front crlf (bytes "CONNECT\r\n") s k p
      go false p true true q z = stands_front crlf (bytes "CONNECT ") s k q
      go false p true false q z = absurd (false_true z refl)
      go false p false c q z = absurd (false_true z refl)

  connected_none : (e k : ℕ) (r : Option ℕ) → connected s e k r ≡ None → r ≡ None
  unfolding connected
  connected_none e k (Some end) h = absurd (done_next _ refl h)
  connected_none e k None h = refl

  through_none : (r : Option ℕ) → through_crlf r ≡ None → r ≡ None
  unfolding through_crlf
  through_none (Some q) h = cc
  through_none None h = refl

  -- where the first that begins doesn't end, no CRLF is behind it
  none_behind : (k : ℕ) → begun d s k ≡ true → connect_at d s k ≡ None → (j : ℕ) → k < j → stands crlf s j ≡ true → ⊥
  none_behind k h g = go (bare_at k) refl (hears_text d) refl (text_at k) refl h
    where
      go : (a : Bool) → bare_at k ≡ a → (b : Bool) → hears_text d ≡ b → (c : Bool) → text_at k ≡ c → a || (b && c) ≡ true → (j : ℕ) → k < j → stands crlf s j ≡ true → ⊥
      go true p b q c r z j l x = let y : ◌≡◌ {A = Option ℕ} (Some (k + 11)) None = sym (connect_bare k p) ∙ g in let o : ◌≡◌ {A = ℕ} 0 1 = cc in omega arith
      go false p true q true r z j l x = false_true x (found_none crlf s (k + 10) (through_none (find_in crlf s (k + 10)) (sym (connect_text k q r) ∙ g)) j (behind_head k j r l x))
      go false p true q false r z j l x = false_true z refl
      go false p false q c r z j l x = false_true z refl

  -- With no answer, no CONNECT line stands from e on; and the other way round.
  pub connect_none : (e : ℕ) → connect_success d s e (first_connect d s e) ≡ None → (j : ℕ) → e ≤ j → connect_at d s j ≡ None
  unfolding connect_success
  connect_none e h j l = go (first_connect d s e) (least_connect e) h
    where
      go : (r : Option ℕ) → LeastSays d s e r → connect_success d s e r ≡ None → connect_at d s j ≡ None
      go (Some k) w z =
          let n = connected_none e k (connect_at d s k) z in
          ⊎_elim
          (λ (q : j < k). connect_not j (w.first j l q))
          (λ (q : k ≤ j).
          ⊎_elim
          (λ (p : k ≡ j). ap (connect_at d s) (sym p) ∙ n)
          (λ (p : k < j). connect_not j (not_true_false (begun d s j) (λ y. none_behind k w.here n j p (begun_crlf j y))))
          (eq-or-lt_of_le q))
          (order j k)
      go None w z = connect_not j (w j l)

  pub connect_next : (e : ℕ) → ((j : ℕ) → e ≤ j → connect_at d s j ≡ None) → connect_success d s e (first_connect d s e) ≡ None
  unfolding connect_success connected
  connect_next e h = go (first_connect d s e) (least_connect e)
    where
      go : (r : Option ℕ) → LeastSays d s e r → connect_success d s e r ≡ None
      go (Some k) w = rw (h k w.after)
      go None w = refl

-- what is nowhere in s is nowhere in its suffix
pub connect_lost : (d : Digester) (s : List ℕ) (k j : ℕ) → connect_at d s (k + j) ≡ None → connect_at d (drop k s) j ≡ None
unfolding connect_at
connect_lost d s k j h =
    rw (stands_drop (fixed_text fixed.Connect) s k j, stands_drop (fixed_text fixed.ConnectText) s k j)
    (go (stands (fixed_text fixed.Connect) s (k + j)) (hears_text d && stands (fixed_text fixed.ConnectText) s (k + j)) h)
  where
    go : (a b : Bool) → (if a then Some (k + j + 11) else if b then through_crlf (find_in crlf s (k + j + 10)) else None) ≡ None → (if a then Some (j + 11) else if b then through_crlf (find_in crlf (drop k s) (j + 10)) else None) ≡ None
    go true b z = cc
    go false true z = ap through_crlf (find_lost crlf s (k + j + 10) k (j + 10) (omega arith) (through_none d s (find_in crlf s (k + j + 10)) z)) ∙ (unfold through_crlf in refl)
    go false false z = refl
