-- The ways out of the items' functions, over plain lists, and what holds of a chain of rules.
use Rattle.std.specs.Prelude.{Option, Some, None, ◌≡◌, Bool, ◌&&◌, length, get_or, take, drop, leb}
use Rattle.std.proofs.Math.Path.{refl, sym, ap}
use Rattle.std.proofs.Common.{◌∙◌, arith, length-append, le-leb}
use Rattle.std.proofs.Math.Bool.{true, false}
use mathlib.Core.List.{List, [], ◌∷◌}
use Prim.Native.Nat.{ℕ, ◌+◌, ◌-◌, ◌≤◌, ◌<◌}
use Rattle.text.specs.Logic.{false_true}
use Rattle.text.specs.Bytes.{bytes}
use Rattle.text.specs.Text.{stands, find_in}
use Rattle.text.specs.Laws.{found_at, stands_fits}
use Rattle.seek.specs.Laws.{byte_not}
use Rattle.table.specs.Table.{found, token_of, Entry, entry_of, entries}
use Rattle.table.specs.Laws.{NextIs, walk_next, entries_past, text_length, text_part}
use Rattle.table.specs.declared.Mark.{Mark}
use Rattle.table.specs.declared.Mark.TheVariants as mark
use Rattle.table.specs.declared.Record.{Record}
use Rattle.lines.specs.Lines.{crlf, fixed_text}
use Rattle.lines.specs.Laws.{fixed_some}
use Rattle.lines.specs.declared.Fixed.{Fixed}
use Rattle.lines.specs.declared.Fixed.TheVariants as fixed
use Rattle.parser.specs.Parser.{custom_prompt, wrapped, tail_at, numeric_at}
use Rattle.parser.specs.Laws.{numeric_tail}
use Rattle.places.specs.Places.{place_in}
use Rattle.places.specs.Laws as places
use Rattle.places.specs.declared.Places.{Places}
use Rattle.answers.specs.declared.Answer.{Answer}
use Rattle.items.specs.declared.First.{First}
use Rattle.items.specs.declared.First.TheVariants as first
use Rattle.items.specs.declared.Occurrence.{Occurrence}
use Rattle.items.specs.Rules.{or_else, occurs_or, first_custom, prompt_tried, custom_prompts}
use Rattle.items.specs.Hints.{sought, first_place}

-- A chain of rules: u is what the first rule t gave, and it answered.
pub hit : (t r u : Option Answer) (a : Answer) → u ≡ t → u ≡ Some a → Some a ≡ or_else t r
unfolding or_else
hit t r u a p q = ap (λ (x : Option Answer). or_else x r) (sym q ∙ p)

-- A chain in which no rule answered, taken apart and put together.
pub next_both : (t r : Option Answer) → or_else t r ≡ None → (t ≡ None) × (r ≡ None)
unfolding or_else
next_both (Some a) r h = cc
next_both None r h = (refl, h)

pub both_next : (t r : Option Answer) → t ≡ None → r ≡ None → or_else t r ≡ None
unfolding or_else
both_next t r p q = ap (λ (x : Option Answer). or_else x r) p ∙ q

pub done_next : (a : Answer) {t : Option Answer} → t ≡ Some a → t ≡ None → ⊥
done_next a h g = cc

-- Behind the last rule there is none.
pub or_next_lem : (t : Option Answer) → t ≡ or_else t None
unfolding or_else
or_next_lem (Some a) = refl
or_next_lem None = refl

pub or_assoc : (a b c : Option Answer) → or_else a (or_else b c) ≡ or_else (or_else a b) c
unfolding or_else
or_assoc (Some x) b c = refl
or_assoc None b c = refl

-- The loops over the table: the rule on all records with the mark is the rule on those from `at` on. A record's text is lent from the table.
abbrev pub part_in : List ℕ → Record → List ℕ
part_in t r = take (r.place + r.len - r.place) (drop r.place t)

-- what a loop over the records knows of the one that it takes, (r, k), where those that are left, x, are the ones found from `at` on; and that those behind it are, too
pub taken : {m : Mark} {t : List ℕ} {at n : ℕ} {r : Record} {k : ℕ} {x l : List (Record × ℕ)} → x ≡ found m t at n → x ≡ (r, k) ∷ l → NextIs m t at n r k × (l ≡ found m t (r.place + r.len) (k + 1))
taken {m} {t} {at} {n} {r} {k} {x} {l} p q = walk_next m t at n r k l (sym p ∙ q)

-- an empty table has no record
pub none_first : (m : Mark) (t s : List ℕ) (e : ℕ) → length t ≡ 0 → None ≡ first_custom (entries m t 0 0) s e
unfolding first_custom
none_first m t s e h = sym (ap (λ (l : List Entry). first_custom l s e) (entries_past m t 0 0 (omega arith)))

pub none_prompts : (t s : List ℕ) (e : ℕ) → length t ≡ 0 → None ≡ custom_prompts (entries mark.Prompt t 0 0) s e
unfolding custom_prompts
none_prompts t s e h = sym (ap (λ (l : List Entry). custom_prompts l s e) (entries_past mark.Prompt t 0 0 (omega arith)))

module _ (m : Mark) (t s : List ℕ) (e at n : ℕ) (w : first_custom (entries m t 0 0) s e ≡ first_custom (entries m t at n) s e) where
  pub custom_end : entries m t at n ≡ [] → None ≡ first_custom (entries m t 0 0) s e
  unfolding first_custom
  custom_end z = sym (w ∙ ap (λ (l : List Entry). first_custom l s e) z)

  module _ (r : Record) (k : ℕ) (z : NextIs m t at n r k) (u : Option ℕ) (y : u ≡ find_in (wrapped (part_in t r)) s e) where
    custom_one : first_custom (entries m t 0 0) s e ≡ occurs_or u (entry_of (token_of t r) k) (first_custom (entries m t (r.place + r.len) (k + 1)) s e)
    unfolding first_custom entry_of token_of
    custom_one =
        w ∙ ap (λ (l : List Entry). first_custom l s e) z.is
        ∙ ap (λ (b : Option ℕ). occurs_or b (entry_of (token_of t r) k) (first_custom (entries m t (r.place + r.len) (k + 1)) s e)) (sym (y ∙ ap (λ (b : List ℕ). find_in (wrapped b) s e) (text_part t r z.inside)))

    pub custom_hit : (place : ℕ) → u ≡ Some place → Some (record { number = k; len = r.len; place = place }) ≡ first_custom (entries m t 0 0) s e
    unfolding occurs_or entry_of token_of
    custom_hit place h = ap (λ (l : ℕ). Some (record { number = k; len = l; place = place })) (sym (text_length t r z.inside)) ∙ sym (rw h at custom_one)

    pub custom_more : u ≡ None → first_custom (entries m t 0 0) s e ≡ first_custom (entries m t (r.place + r.len) (k + 1)) s e
    unfolding occurs_or
    custom_more h = rw h at custom_one

module _ (t s : List ℕ) (e at n : ℕ) (w : custom_prompts (entries mark.Prompt t 0 0) s e ≡ custom_prompts (entries mark.Prompt t at n) s e) where
  pub prompts_end : entries mark.Prompt t at n ≡ [] → None ≡ custom_prompts (entries mark.Prompt t 0 0) s e
  unfolding custom_prompts
  prompts_end z = sym (w ∙ ap (λ (l : List Entry). custom_prompts l s e) z)

  module _ (r : Record) (k : ℕ) (z : NextIs mark.Prompt t at n r k) (b : Bool) (f : b ≡ custom_prompt (part_in t r) s e) (u : Option Answer) (y : u ≡ prompt_tried b r.prompt s) where
    prompts_one : custom_prompts (entries mark.Prompt t 0 0) s e ≡ or_else u (custom_prompts (entries mark.Prompt t (r.place + r.len) (k + 1)) s e)
    unfolding custom_prompts entry_of token_of
    prompts_one =
        w ∙ ap (λ (l : List Entry). custom_prompts l s e) z.is
        ∙ ap (λ (c : Option Answer). or_else c (custom_prompts (entries mark.Prompt t (r.place + r.len) (k + 1)) s e))
        (sym (y ∙ ap (λ (c : Bool). prompt_tried c r.prompt s) (f ∙ ap (λ (l : List ℕ). custom_prompt l s e) (text_part t r z.inside))))

    pub prompts_hit : (a : Answer) → u ≡ Some a → Some a ≡ custom_prompts (entries mark.Prompt t 0 0) s e
    unfolding or_else
    prompts_hit a h = sym (rw h at prompts_one)

    pub prompts_more : u ≡ None → custom_prompts (entries mark.Prompt t 0 0) s e ≡ custom_prompts (entries mark.Prompt t (r.place + r.len) (k + 1)) s e
    unfolding or_else
    prompts_more h = rw h at prompts_one

-- where a custom line occurs, it lies in the input
pub wrapped_length : (x : List ℕ) → length (wrapped x) ≡ length x + 4
wrapped_length x = omega (arith, length-append x crlf)

-- an occurrence o from e on lies in s
abbrev pub Inside : List ℕ → ℕ → Occurrence → Type 0
Inside s e o = (e ≤ o.place) × (o.place + (o.len + 4) ≤ length s)

occurs_or_room : (s : List ℕ) (e : ℕ) (x : Entry) (f : Option ℕ) (r : Option Occurrence) → find_in (wrapped x.text) s e ≡ f → ((o : Occurrence) → r ≡ Some o → Inside s e o) → (o : Occurrence) → occurs_or f x r ≡ Some o → Inside s e o
unfolding occurs_or
occurs_or_room s e x (Some j) r p ih o h =
    let w = found_at (wrapped x.text) s e j p in
    let a : ◌≡◌ {A = Occurrence} (record { number = x.number; len = length x.text; place = j }) o = cc in
    let b : j ≡ o.place = ap (λ (v : Occurrence). v.place) a in
    let d : length x.text ≡ o.len = ap (λ (v : Occurrence). v.len) a in
    let c = stands_fits (wrapped x.text) s j (omega (arith, wrapped_length x.text)) w.here in
    (omega (arith, w.after), omega (arith, c, wrapped_length x.text))
occurs_or_room s e x None r p ih o h = ih o h

first_room : (l : List Entry) (s : List ℕ) (e : ℕ) (o : Occurrence) → first_custom l s e ≡ Some o → Inside s e o
unfolding first_custom
first_room [] s e o h = cc
first_room (x ∷ l) s e o h = occurs_or_room s e x (find_in (wrapped x.text) s e) (first_custom l s e) refl (first_room l s e) o h

pub occurs_room : (l : List Entry) (s : List ℕ) (e : ℕ) (r : Option Occurrence) → r ≡ first_custom l s e → (o : Occurrence) → r ≡ Some o → Inside s e o
occurs_room l s e r p o q = first_room l s e o (sym p ∙ q)

-- a numeric error, whose head stands at p
pub numeric_behind : (h : Fixed) (s : List ℕ) (p : ℕ) → stands (fixed_text h) s p ≡ true → numeric_at (fixed_text h) s p ≡ tail_at s (p + length (fixed_text h))
numeric_behind h s p e = sym (numeric_tail (fixed_text h) s p e)

-- a prompt whose test fails
pub prompt_miss : (b : Bool) (c : ℕ) (s : List ℕ) → b ≡ false → None ≡ prompt_tried b c s
unfolding prompt_tried
prompt_miss b c s h = rw h

-- the first place of each of the five lies in the input
module _ (s : List ℕ) (e : ℕ) (p : Places) where
  byte_inside : (c k : ℕ) → find_in (c ∷ []) s e ≡ Some k → k < length s
  byte_inside c k q = omega (arith, stands_fits (c ∷ []) s k (omega arith) (found_at (c ∷ []) s e k q).here)

  place_some : (l : Fixed) (k : ℕ) → place_in s p l ≡ Some k → k < length s
  place_some l k q = omega (arith, places.place_inside s p l k q, fixed_some l)

pub place_within : (x : First) (s : List ℕ) (e : ℕ) (p : Places) (k : ℕ) → first_place x s e p ≡ Some k → k < length s
place_within first.Greater s e p = byte_inside s e p 62
place_within first.Sign s e p = byte_inside s e p 64
place_within first.Cme s e p = place_some s e p fixed.Cme
place_within first.Cms s e p = place_some s e p fixed.Cms
place_within first.Modem s e p = place_some s e p fixed.Modem

-- what is sought stands at its first place
pub place_here : (x : First) (s : List ℕ) (e : ℕ) (p : Places) (k : ℕ) → first_place x s e p ≡ Some k → stands (sought x) s k ≡ true
place_here first.Greater s e p k q = (found_at (bytes ">") s e k q).here
place_here first.Sign s e p k q = (found_at (bytes "@") s e k q).here
place_here first.Cme s e p k q = places.place_here s p fixed.Cme k q
place_here first.Cms s e p k q = places.place_here s p fixed.Cms k q
place_here first.Modem s e p k q = places.place_here s p fixed.Modem k q

-- a byte that is no prompt, passed over
pub no_prompt_by : (s : List ℕ) (i : ℕ) → i < length s → leb 62 (get_or s i 0) && leb (get_or s i 0) 64 ≡ false → (find_in (bytes ">") s i ≡ find_in (bytes ">") s (i + 1)) × (find_in (bytes "@") s i ≡ find_in (bytes "@") s (i + 1))
no_prompt_by s i h q = (byte_not 62 s i h (other 62 (omega arith) (omega arith)), byte_not 64 s i h (other 64 (omega arith) (omega arith)))
  where
    other : (b : ℕ) → 62 ≤ b → b ≤ 64 → get_or s i 0 ≡ b → ⊥
    other b l u e =
        let z : leb 62 (get_or s i 0) && leb (get_or s i 0) 64 ≡ true = rw (e, le-leb 62 b l, le-leb b 64 u) in
        false_true z q
