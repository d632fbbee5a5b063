-- R-14: by how the input ends and which texts it lacks, no line start holds a finished item (`nothing_finished`), and it need not be digested.
-- A prompt is the last byte that is no run blank; every other item has at least four bytes and ends in LF, and none begins before the first line start.
use Rattle.std.specs.Prelude.{Option, Some, None, ◌≡◌, ◌⊎◌, true, false, List, [], ◌∷◌, ℕ, ◌+◌, ◌-◌, ◌≤◌, ◌<◌, length, get_or, drop}
use Rattle.std.proofs.Math.Path.{refl}
use Rattle.std.proofs.Common.{sym, ap, ◌∙◌, inl, inr, ⊎_elim, arith, get_or-drop}
use Rattle.std.proofs.Math.Nat.{zero-add}
use Rattle.outcome.specs.Outcome.{answered}
use Rattle.text.specs.Bytes.{bytes}
use Rattle.text.specs.Logic.{false_true, order}
use Rattle.text.specs.Text.{is_blank, keep, stands, find_in}
use Rattle.text.specs.Laws.{found_at, found_none, stands_get_d, zero_past, keep_passes}
use Rattle.text.specs.declared.Blanks.TheVariants as blanks
use Rattle.table.specs.Table.{is_text, Token, Entry, of_mark, tokens, ruling}
use Rattle.table.specs.Laws.{Texts, EntryTexts, mark_texts, text_some, good_tokens}
use Rattle.table.specs.declared.Mark.{Mark}
use Rattle.table.specs.declared.Mark.TheVariants as mark
use Rattle.lines.specs.Lines.{hears_text, crlf, fixed_text}
use Rattle.lines.specs.declared.Digester.{Digester}
use Rattle.lines.specs.declared.Fixed.{Fixed}
use Rattle.lines.specs.declared.Fixed.TheVariants as fixed
use Rattle.parser.specs.Parser.{custom_prompt, wrapped}
use Rattle.findings.specs.Findings.{not_lf}
use Rattle.answers.specs.Answer.{nothing}
use Rattle.items.specs.Rules.{skipped, custom_prompts, heads}
use Rattle.items.specs.Laws.{wrapped_length}
use Rattle.digest.specs.Digest.{digest_in, digest_unchecked}
use Rattle.digest.specs.Finished.{AnyOf, LineStart, NumericEnded, NoticeEnded, FirstAlone, EndsIn, nine, Line, TextLine, Item, NothingFinished}
use Rattle.digest.specs.Finished as items
use Rattle.digest.specs.Position.{ends_is}
use Rattle.digest.specs.Items.{some_map, some_any, some_texts, ending_lf, crlf_lf, opens, wrapped_last, stands_here, notice_lf}
use Rattle.digest.specs.Starts.{start_is}
use Rattle.digest.specs.Silent.{no_customs}
use Rattle.digest.specs.Theorem.{ends_back, heard_so}
use Rattle.digest.specs.Calls.{unchecked_heard}
use Rattle.quiet.specs.Quiet.{counts, Absent}

-- everything in the list has the property
abbrev pub Each : {A : Type 0} → (A → Type 0) → List A → Type 0
Each P [] = Unit {0}
Each P (x ∷ l) = P x × Each P l

-- behind the text t, where it stands first, there is no LF: the last one ends at `keep not_lf s`
abbrev pub Unended : List ℕ → List ℕ → Type 0
Unended t s = (k : ℕ) → find_in t s 0 ≡ Some k → keep not_lf s ≤ k + length t

-- With no record in the table, wherever lines end: no fixed line stands in s, no numeric error ends, and no CONNECT line with text begins that the digester would hear.
pub record NoLine (d : Digester) (ts : List Token) (s : List ℕ) : Type 0 where
  pub table : ts ≡ []
  pub lines : Each (λ l. Absent (fixed_text l) s) nine
  pub numbers : Each (λ h. Unended (fixed_text h) s) heads
  pub text : hears_text d ≡ true → Absent (fixed_text fixed.ConnectText) s

-- Nothing in s can be finished: its last byte that is no run blank is no prompt, nor does it end in a custom one, and either no line ends behind the first line start or there is none to end.
pub record Quiet (d : Digester) (ts : List Token) (s : List ℕ) : Type 0 where
  pub greater : counts (bytes ">") s (keep (is_blank blanks.Run) s) ≡ false
  pub at_sign : counts (bytes "@") s (keep (is_blank blanks.Run) s) ≡ false
  pub customs : custom_prompts (of_mark mark.Prompt 0 ts) s 0 ≡ None
  pub lines : (keep not_lf s ≤ skipped s + 3) ⊎ NoLine d ts s

each_some : {A : Type 0} (P Q : A → Type 0) (R : Type 0) → ((x : A) → P x → Q x → R) → (l : List A) → Each P l → AnyOf Q l → R
each_some P Q R f [] w h = absurd h
each_some P Q R f (x ∷ l) w (inl h) = f x w.0 h
each_some P Q R f (x ∷ l) w (inr h) = each_some P Q R f l w.1 h

lf_kept : (s : List ℕ) (i : ℕ) → get_or s i 0 ≡ 10 → i < keep not_lf s
unfolding not_lf
lf_kept s i e =
    ⊎_elim
    (λ (h : i < keep not_lf s). h)
    (λ (h : keep not_lf s ≤ i).
    ⊎_elim
    (λ (g : i < length s). absurd (false_true (ap not_lf (sym e) ∙ keep_passes not_lf s i h g) refl))
    (λ (g : length s ≤ i). absurd (omega (arith, zero_past s i g)))
    (order i (length s)))
    (order i (keep not_lf s))

-- the first n bytes of u end in LF, and are four at least
abbrev Ended : List ℕ → ℕ → Type 0
Ended u n = (4 ≤ n) × (get_or u (n - 1) 0 ≡ 10)

-- each item that isn't a prompt does
line_ended : (t u : List ℕ) (n : ℕ) → Ended t (length t) → Line t u n → Ended u n
line_ended t u n e w =
    let i : n - 1 ≡ 0 + (length t - 1) = omega (arith, w.1) in
    (omega (arith, e.0, w.1), ap (λ (k : ℕ). get_or u k 0) i ∙ stands_get_d t u 0 (length t - 1) w.0 (omega (arith, e.0)) ∙ e.1)

nine_ended : Each (λ l. Ended (fixed_text l) (length (fixed_text l))) nine
nine_ended = ((omega arith, refl), ((omega arith, refl), ((omega arith, refl), ((omega arith, refl), ((omega arith, refl), ((omega arith, refl), ((omega arith, refl), ((omega arith, refl), ((omega arith, refl), tt)))))))))

custom_ended : (l : List Entry) (u : List ℕ) (n : ℕ) → AnyOf (λ x. Line (wrapped x.text) u n) l → Ended u n
custom_ended l u n h = some_any (λ x. Line (wrapped x.text) u n) (Ended u n) (λ x. line_ended (wrapped x.text) u n (omega (arith, wrapped_length x.text), wrapped_last x.text)) l h

notice_ended : (l : List Entry) → EntryTexts l → (u : List ℕ) (n : ℕ) → AnyOf (λ x. NoticeEnded x.text u n) l → Ended u n
notice_ended l w u n h =
    some_texts (λ x. NoticeEnded x.text u n) (Ended u n)
    (λ x t v. let b = notice_lf x.text u n v in (omega (arith, b.1.0, text_some x.text t), b.1.1))
    l w h

text_ended : (u : List ℕ) (n : ℕ) → TextLine u n → Ended u n
text_ended u n w =
    let i : n - 1 ≡ w.q + 1 = omega (arith, w.ended) in
    (omega (arith, w.ended, w.behind), ap (λ (k : ℕ). get_or u k 0) i ∙ crlf_lf u w.q w.here)

number_ended : (h : Fixed) (u : List ℕ) (n : ℕ) → NumericEnded (fixed_text h) u n → Ended u n
number_ended h u n w =
    (omega (arith, w.ended, w.digits.0, w.spaces.0, (opens h).long), ap (λ (k : ℕ). get_or u (k - 1) 0) w.ended.1 ∙ ending_lf u w.b w.ended.0)

-- a table with no record has none of any mark
no_records : (ts : List Token) (m : Mark) (P : Entry → Type 0) → ts ≡ [] → AnyOf P (of_mark m 0 ts) → ⊥
unfolding of_mark
no_records ts m P e h = rw e at h

module _ (d : Digester) (ts : List Token) (good : Texts ts) (s : List ℕ) (w : Quiet d ts s) (p : ℕ) (start : LineStart s p) where
  after : skipped s ≤ p
  after =
      ⊎_elim
      (λ (e : p ≡ skipped s). omega arith)
      (λ (e : (skipped s + 2 ≤ p) × ((stands crlf s p ≡ true) × (stands crlf s (skipped s) ≡ true))). omega (arith, e.0))
      (start_is s p start)

  kept : (n : ℕ) → Ended (drop p s) n → p + n ≤ keep not_lf s
  kept n e = omega (arith, e.0, lf_kept s (p + (n - 1)) (sym (get_or-drop p s (n - 1) 0) ∙ e.1))

  -- what ends in LF would end behind the last one, or is none of the lines
  no_line_lem : (n : ℕ) → Ended (drop p s) n → (NoLine d ts s → ⊥) → ⊥
  no_line_lem n e f = ⊎_elim (λ (h : keep not_lf s ≤ skipped s + 3). omega (arith, e.0, kept n e, after)) f w.lines

  no_number_lem : (n : ℕ) (h : Fixed) → Unended (fixed_text h) s → NumericEnded (fixed_text h) (drop p s) n → ⊥
  no_number_lem n h f g = go (find_in (fixed_text h) s 0) refl
    where
      here : stands (fixed_text h) s p ≡ true
      here = stands_here (fixed_text h) s p ∙ g.head

      go : (r : Option ℕ) → find_in (fixed_text h) s 0 ≡ r → ⊥
      go (Some k) e =
          ⊎_elim
          (λ (l : p < k). false_true here ((found_at (fixed_text h) s 0 k e).first p (omega arith) l))
          (λ (l : k ≤ p). omega (arith, f k e, kept n (number_ended h (drop p s) n g), g.ended, g.digits.0, g.spaces.0))
          (order p k)
      go None e = false_true here (found_none (fixed_text h) s 0 e p (omega arith))

  no_alone : (c : ℕ) → is_text (c ∷ []) ≡ true → counts (c ∷ []) s (keep (is_blank blanks.Run) s) ≡ false → FirstAlone c (drop p s) → ⊥
  unfolding custom_prompt counts
  no_alone c t f g =
      let e = ends_is (c ∷ []) s t (ends_back d ts good (c ∷ []) s p (record { q = g.q; here = g.here; after = g.after })) in
      false_true (rw zero-add at e) f

  no_item : (n : ℕ) → Item d ts (drop p s) n → ⊥
  unfolding is_text
  no_item n (items.notice h) = no_line_lem n (notice_ended (of_mark mark.Notice 0 ts) (mark_texts mark.Notice 0 ts good) (drop p s) n h) (λ v. no_records ts mark.Notice _ v.table h)
  no_item n (items.line h) =
      let P : Fixed → Type 0 = λ l. Line (fixed_text l) (drop p s) n in
      no_line_lem n
      (each_some (λ l. Ended (fixed_text l) (length (fixed_text l))) P (Ended (drop p s) n) (λ l. line_ended (fixed_text l) (drop p s) n) nine nine_ended h)
      (λ v. each_some (λ l. Absent (fixed_text l) s) P ⊥ (λ l e g. false_true (stands_here (fixed_text l) s p ∙ g.0) (e p)) nine v.lines h)
  no_item n (items.text z h) = no_line_lem n (text_ended (drop p s) n h) (λ v. false_true (stands_here (fixed_text fixed.ConnectText) s p ∙ h.head) (v.text z p))
  no_item n (items.custom_success h) = no_line_lem n (custom_ended (of_mark mark.Success 0 ts) (drop p s) n h) (λ v. no_records ts mark.Success _ v.table h)
  no_item n (items.custom_error h) = no_line_lem n (custom_ended (of_mark mark.Error 0 ts) (drop p s) n h) (λ v. no_records ts mark.Error _ v.table h)
  no_item n (items.numeric h) =
      let P : Fixed → Type 0 = λ x. NumericEnded (fixed_text x) (drop p s) n in
      no_line_lem n
      (some_any P (Ended (drop p s) n) (λ x. number_ended x (drop p s) n) heads h)
      (λ v. each_some (λ x. Unended (fixed_text x) s) P ⊥ (no_number_lem n) heads v.numbers h)
  no_item n (items.prompt (inl h) g) = no_alone 62 refl w.greater h
  no_item n (items.prompt (inr h) g) = no_alone 64 refl w.at_sign h
  no_item n (items.custom_prompt h g) =
      no_customs d ts good s 0 (of_mark mark.Prompt 0 ts) (mark_texts mark.Prompt 0 ts good) w.customs
      (some_map (λ x. EndsIn x.text (drop p s)) (λ x. EndsIn x.text s) (λ x. ends_back d ts good x.text s p) (of_mark mark.Prompt 0 ts) h)

pub nothing_finished : (d : Digester) (ts : List Token) → Texts ts → (s : List ℕ) → Quiet d ts s → NothingFinished d ts s
nothing_finished d ts good s w p n h = no_item d ts good s w p h.start n h.item

-- so the answer is None, and what is skipped is consumed
pub nothing_answer : (d : Digester) (ts : List Token) → Texts ts → (s : List ℕ) → Quiet d ts s → digest_in d ts s ≡ nothing (skipped s)
nothing_answer d ts good s w = let h = heard_so d ts good s (digest_in d ts s) refl in h.skip (h.only (nothing_finished d ts good s w))

pub nothing_unchecked : (d : Digester) (t s : List ℕ) (n : ℕ) → ruling t ≡ answered n → length s ≤ 4096 → Quiet d (tokens t) s → digest_unchecked d t s ≡ nothing (skipped s)
nothing_unchecked d t s n g l w = let h = unchecked_heard d t s l n g in h.skip (h.only (nothing_finished d (tokens t) (good_tokens t n g).texts s w))
