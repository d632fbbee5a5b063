-- What the readers tell, each of what stands from its place on: a derivation read to its end, or one that begins as the bytes do, with the fault.
use Rattle.std.specs.Prelude.{Result, Ok, Err, ◌≡◌, refl, ◌⊎◌, Bool, true, false, not, ◌&&◌, ◌||◌, ℕ, zero, suc, ◌+◌, ◌≤◌, ◌<◌, length, get_or, eqb, leb, ltb, if◌then◌else◌}
use Rattle.std.proofs.Common.{sym, subst, le-leb, lt-ltb, le-ltb, eqb-true}
use mathlib.Core.List.{List, [], ◌∷◌, ◌++◌, Memᴰ}
use Rattle.std.proofs.lemmas.Bool.{lt-leb}
use Rattle.text.specs.Logic.{false_true}
use Rattle.parser.specs.Parser.{is_digit, value}
use Rattle.pieces.specs.declared.Element.{Element}
use Rattle.lists.specs.declared.ListError.{ListError}
use Rattle.lists.specs.Grammar.{Symbol, body, element, list, Derivation, word, elements, Over, too_deep, too_large, too_many, over, number_of, place_of}
use Rattle.lists.specs.Scan.{at, dead, start, done, closed, behind, step, is_dead, rests, outside, final, fault_in, stop, scan}
use Rattle.lists.specs.Shows.{Follow}
use Rattle.lists.specs.Shows as shows

abbrev pub is_list : Symbol → Bool
is_list body = false
is_list element = false
is_list list = true

-- a derivation of c, read from the place p on within d brackets with n elements before it; of a list, as far as it goes
pub record Read (c : Symbol) (d n p : ℕ) (x : List ℕ) (es : List Element) (e m : ℕ) : Type 0 where
  pub tree : Derivation c
  pub rest : List ℕ
  pub parts : x ≡ word tree ++ rest
  pub gives : elements tree d p ≡ es
  pub end : e ≡ p + length (word tree)
  pub count : m ≡ n + length es
  pub few : m ≤ 256
  pub within : over tree d p n ≡ []
  pub onward : scan (at start d n) p x ≡ scan (at done d m) e rest
  pub ended : is_list c ≡ true → eqb (get_or rest 0 0) 44 ≡ false

-- the limit k is passed at q, and shown by what was seen, or by the end as well
pub record Limited (c : Symbol) (d n p : ℕ) (t : Derivation c) (seen rest other : List ℕ) (k q : ℕ) : Type 0 where
  pub shown : ℕ
  pub among : Memᴰ (record { refusal = k; place = q; shown = shown }) (over t d p n)
  pub enough : (shown ≡ p + length seen) ⊎ ((rest ≡ []) × ((other ≡ []) × (d ≡ 0)))

-- what follows a derivation, where it is known: a comma, but behind a list; within brackets a closing one
pub data After (c : Symbol) (d : ℕ) : Type 0 where
  unknown : After c d
  comma : is_list c ≡ false → After c d
  close : 0 < d → After c d

abbrev pub following : {c : Symbol} {d : ℕ} → After c d → List ℕ
following unknown = []
following (comma h) = 44 ∷ []
following (close h) = 41 ∷ []

-- a derivation that begins as x does, up to the fault or to what shows it; the end shows it where both have it
pub record Halted (c : Symbol) (d n p : ℕ) (x : List ℕ) (k q : ℕ) : Type 0 where
  pub tree : Derivation c
  pub after : After c d
  pub seen : List ℕ
  pub rest : List ℕ
  pub other : List ℕ
  pub here : x ≡ seen ++ rest
  pub there : word tree ++ following after ≡ seen ++ other
  pub why : ((k ≡ 6) × (q ≡ p + length seen)) ⊎ Limited c d n p tree seen rest other k q
  pub verdict : scan (at start d n) p x ≡ stop k q

-- the reader of a body that holds no list
abbrev pub Bodied : ℕ → ℕ → ℕ → List ℕ → Result Element ListError → Type 0
Bodied d n p x (Ok e) = Read body d n p x (e ∷ []) e.end (suc n)
Bodied d n p x (Err why) = Halted body d n p x (number_of why) (place_of why)

pub bodied_as : (d n p : ℕ) (x : List ℕ) (e f : Element) → e ≡ f → Bodied d n p x (Ok f) → Bodied d n p x (Ok e)
bodied_as d n p x e f q = subst (λ (o : Element). Bodied d n p x (Ok o)) (sym q)

-- may an element end where x is still to come, within d brackets?
unfoldable pub ends_at : ℕ → List ℕ → Bool
ends_at d [] = outside d
ends_at d (b ∷ x) = eqb b 44 || (eqb b 41 && not (outside d))

module _ (b : ℕ) (x : List ℕ) where
  byte_follow : (c k : Bool) → eqb b 44 ≡ c → eqb b 41 ≡ k → (z : Bool) → c || (k && z) ≡ true → Follow (b ∷ x)
  byte_follow true k f g z e = subst (λ (a : ℕ). Follow (a ∷ x)) (sym (eqb-true b 44 f)) (shows.comma x)
  byte_follow false true f g z e = subst (λ (a : ℕ). Follow (a ∷ x)) (sym (eqb-true b 41 g)) (shows.close x)
  byte_follow false false f g z e = absurd (false_true e refl)

pub ends_follow : (d : ℕ) (x : List ℕ) → ends_at d x ≡ true → Follow x
unfolding ends_at
ends_follow d [] e = shows.nothing
ends_follow d (b ∷ x) e = byte_follow b x (eqb b 44) (eqb b 41) refl refl (not (outside d)) e

-- what begins no body but an empty one
pub record Bare (x : List ℕ) : Type 0 where
  pub digit : is_digit (get_or x 0 0) ≡ false
  pub space : eqb (get_or x 0 0) 32 ≡ false
  pub quote : eqb (get_or x 0 0) 34 ≡ false
  pub opens : eqb (get_or x 0 0) 40 ≡ false

-- behind an element no other byte may stand
behind_dead : (d n b : ℕ) (x : List ℕ) → ends_at d (b ∷ x) ≡ false → behind d n b ≡ dead
unfolding ends_at behind closed
behind_dead d n b x = go (eqb b 44) (eqb b 41) d
  where
    go : (c k : Bool) (d : ℕ) → c || (k && not (outside d)) ≡ false → (if c then at start d n else if k then closed d n else dead) ≡ dead
    go true k d e = absurd (false_true refl e)
    go false true zero e = refl
    go false true (suc d) e = absurd (false_true refl e)
    go false false d e = refl

pub bare_fault : (d n : ℕ) (x : List ℕ) → Bare x → ends_at d x ≡ false → fault_in (at start d n) x ≡ 6
unfolding fault_in final rests step is_dead ends_at
bare_fault d n [] h e = rw e
bare_fault d n (b ∷ x) h e = rw (h.digit, h.space, h.quote, h.opens, behind_dead d (suc n) b x e)

pub done_fault : (d n : ℕ) (x : List ℕ) → ends_at d x ≡ false → fault_in (at done d n) x ≡ 6
unfolding fault_in final rests step is_dead ends_at
done_fault d n [] e = rw e
done_fault d n (b ∷ x) e = rw (behind_dead d n b x e)

-- a limit among those that are passed
listed : (b : Bool) (o : Over) → b ≡ true → Memᴰ o (if b then o ∷ [] else [])
listed true o e = Memᴰ.head refl
listed false o e = absurd (false_true refl (sym e))

unlisted : (b : Bool) (o : Over) → b ≡ false → (if b then o ∷ [] else []) ≡ []
unlisted true o e = absurd (false_true refl e)
unlisted false o e = refl

module _ (p : ℕ) where
  pub late_listed : (n : ℕ) → 256 ≤ n → Memᴰ (record { refusal = 9; place = p; shown = suc p }) (too_many n p)
  unfolding too_many
  late_listed n h = listed (leb 256 n) _ (le-leb 256 n h)

  pub few_unlisted : (n : ℕ) → n < 256 → too_many n p ≡ []
  unfolding too_many
  few_unlisted n h = unlisted (leb 256 n) _ (lt-leb 256 n h)

  pub deep_listed : (d : ℕ) → 4 ≤ d → Memᴰ (record { refusal = 7; place = p; shown = suc p }) (too_deep d p)
  unfolding too_deep
  deep_listed d h = listed (leb 4 d) _ (le-leb 4 d h)

  pub shallow_unlisted : (d : ℕ) → d < 4 → too_deep d p ≡ []
  unfolding too_deep
  shallow_unlisted d h = unlisted (leb 4 d) _ (lt-leb 4 d h)

  pub large_listed : (w : List ℕ) → 4294967295 < value 0 w → Memᴰ (record { refusal = 8; place = p; shown = p + length w }) (too_large w p)
  unfolding too_large
  large_listed w h = listed (ltb 4294967295 (value 0 w)) _ (lt-ltb 4294967295 (value 0 w) h)

  pub small_unlisted : (w : List ℕ) → value 0 w ≤ 4294967295 → too_large w p ≡ []
  unfolding too_large
  small_unlisted w h = unlisted (ltb 4294967295 (value 0 w)) _ (le-ltb 4294967295 (value 0 w) h)
