-- What an item takes: lines begin with CRLF and end in LF, so that no notice is unfinished where one stands, and each item takes a byte.
use Rattle.std.specs.Prelude.{Option, Some, None, ◌≡◌, refl, ◌⊎◌, Bool, List, [], ◌∷◌, ◌++◌, ℕ, zero, suc, ◌+◌, ◌-◌, ◌≤◌, ◌<◌, if◌then◌else◌}
use Rattle.std.proofs.Common.{sym, ◌∙◌, inl, inr, add-zero}
use Rattle.std.proofs.Math.Path.{ap}
use Rattle.std.proofs.Math.Logic.{⊎_elim}
use Rattle.std.proofs.Math.Bool.{true, false}
use native.Mathlib.Omega.{arith}
use Rattle.std.proofs.Math.ListN.{length, get_or, drop, length-append, length-drop, get_or-append}
use Rattle.std.proofs.Math.Seq.{get_or-append-add, get_or-drop}
use Rattle.text.specs.Bytes.{bytes}
use Rattle.text.specs.Logic.{false_true, order}
use Rattle.text.specs.Text.{stands, find_in}
use Rattle.text.specs.Laws.{found_at, find_is, stands_drop, stands_front, stands_fits, stands_byte, stands_get_d, stands_room}
use Rattle.table.specs.Table.{is_text, Token, Entry, of_mark}
use Rattle.table.specs.Laws.{Texts, EntryTexts, mark_texts, text_some, text_byte}
use Rattle.table.specs.declared.Mark.TheVariants as mark
use Rattle.lines.specs.Lines.{crlf, fixed_text}
use Rattle.parser.specs.Parser.{line_ending, wrapped, breaks_off}
use Rattle.lines.specs.declared.Digester.{Digester}
use Rattle.lines.specs.declared.Fixed.{Fixed}
use Rattle.lines.specs.declared.Fixed.TheVariants as fixed
use Rattle.answers.specs.declared.Answer.{Answer}
use Rattle.items.specs.Rules.{or_else, heads}
use Rattle.items.specs.Laws.{wrapped_length}
use Rattle.digest.specs.Finished.{AnyOf, NoticeEnd, crlf_end, colon, NoticeEnded, Unfinished, NumericEnded, FirstAlone, EndsIn, nine, Line, TextLine, Item}
use Rattle.digest.specs.Finished as items

-- `AnyOf`
pub some_map : {A : Type 0} (P Q : A → Type 0) → ((x : A) → P x → Q x) → (l : List A) → AnyOf P l → AnyOf Q l
some_map P Q f [] h = h
some_map P Q f (x ∷ l) (inl h) = inl (f x h)
some_map P Q f (x ∷ l) (inr h) = inr (some_map P Q f l h)

pub some_any : {A : Type 0} (P : A → Type 0) (R : Type 0) → ((x : A) → P x → R) → (l : List A) → AnyOf P l → R
some_any P R f [] h = absurd h
some_any P R f (x ∷ l) (inl h) = f x h
some_any P R f (x ∷ l) (inr h) = some_any P R f l h

pub some_either : {A : Type 0} (P Q R : A → Type 0) → ((x : A) → P x → Q x ⊎ R x) → (l : List A) → AnyOf P l → AnyOf Q l ⊎ AnyOf R l
some_either P Q R f [] h = absurd h
some_either P Q R f (x ∷ l) (inl h) = ⊎_elim (λ (q : Q x). inl (inl q)) (λ (r : R x). inr (inl r)) (f x h)
some_either P Q R f (x ∷ l) (inr h) = ⊎_elim (λ (q : AnyOf Q l). inl (inr q)) (λ (r : AnyOf R l). inr (inr r)) (some_either P Q R f l h)

-- in a list of two parts
pub some_left : {A : Type 0} (P : A → Type 0) (l m : List A) → AnyOf P l → AnyOf P (l ++ m)
some_left P [] m h = absurd h
some_left P (x ∷ l) m (inl h) = inl h
some_left P (x ∷ l) m (inr h) = inr (some_left P l m h)

pub some_right : {A : Type 0} (P : A → Type 0) (l m : List A) → AnyOf P m → AnyOf P (l ++ m)
some_right P [] m h = h
some_right P (x ∷ l) m h = inr (some_right P l m h)

pub some_split : {A : Type 0} (P : A → Type 0) (l m : List A) → AnyOf P (l ++ m) → AnyOf P l ⊎ AnyOf P m
some_split P [] m h = inr h
some_split P (x ∷ l) m (inl h) = inl (inl h)
some_split P (x ∷ l) m (inr h) = ⊎_elim (λ (q : AnyOf P l). inl (inr q)) (λ (q : AnyOf P m). inr q) (some_split P l m h)

-- with a good text for each record
pub some_texts : (P : Entry → Type 0) (R : Type 0) → ((x : Entry) → is_text x.text ≡ true → P x → R) → (l : List Entry) → EntryTexts l → AnyOf P l → R
some_texts P R f [] w h = absurd h
some_texts P R f (x ∷ l) w (inl h) = f x w.0 h
some_texts P R f (x ∷ l) w (inr h) = some_texts P R f l w.1 h

-- a chain of rules taken apart
pub done_one : (t r : Option Answer) (a : Answer) → or_else t r ≡ Some a → (t ≡ Some a) ⊎ ((t ≡ None) × (r ≡ Some a))
unfolding or_else
done_one (Some b) r a h = inl h
done_one None r a h = inr (refl, h)

-- An LF behind the line ending: no notice is unfinished there, since neither its text nor the CR behind it has one.
module _ (u : List ℕ) where
  ending_small : line_ending u 0 ≤ 2
  unfolding line_ending
  ending_small = go (stands (bytes "\n") u 0) (stands crlf u 0)
    where
      go : (a b : Bool) → (if a then 1 else if b then 2 else 0) ≤ 2
      go true b = omega arith
      go false true = omega arith
      go false false = omega arith

  pub lf_not_broken : (x : List ℕ) → is_text x ≡ true → (k j : ℕ) → k ≤ j → j < length u → get_or u j 0 ≡ 10 → breaks_off x u k ≡ true → ⊥
  unfolding breaks_off
  lf_not_broken x t k j h g e b =
      let d = drop k u in
      let y = x ++ bytes "\r" in
      let s : stands d y 0 ≡ true = unfold stands in b in
      let f = stands_room d y 0 s in
      let l : length y ≡ length x + 1 = length-append x (bytes "\r") in
      let i : k + (j - k) ≡ j = omega arith in
      let a : get_or y (0 + (j - k)) 0 ≡ 10 = stands_get_d d y 0 (j - k) s (rw length-drop (omega arith)) ∙ get_or-drop k u (j - k) 0 ∙ ap (λ (n : ℕ). get_or u n 0) i ∙ e in
      let o : j - k ≡ 0 + (j - k) = omega arith in
      let c : get_or y (j - k) 0 ≡ 10 = ap (λ (n : ℕ). get_or y n 0) o ∙ a in
      ⊎_elim
      (λ (q : j - k < length x). omega (arith, c, get_or-append x (bytes "\r") 0 (j - k) q, text_byte x t (j - k) q))
      (λ (q : length x ≤ j - k).
      let m : j - k ≡ length x + 0 = omega (arith, length-drop k u) in
      let n : get_or y (length x + 0) 0 ≡ 13 = get_or-append-add x (bytes "\r") 0 0 in
      omega (arith, n, ap (λ (p : ℕ). get_or y p 0) m))
      (order (j - k) (length x))

  pub lf_finished : (j : ℕ) → 2 ≤ j → j < length u → get_or u j 0 ≡ 10 → (l : List Entry) → EntryTexts l → AnyOf (λ x. Unfinished x.text u) l → ⊥
  lf_finished j h g e l w = some_texts (λ x. Unfinished x.text u) ⊥ (λ x t v. lf_not_broken x.text t (line_ending u 0) j (omega (arith, ending_small)) g e v.broken) l w

-- a line ending ends in LF
pub ending_lf : (u : List ℕ) (b : ℕ) → 0 < line_ending u b → get_or u (b + line_ending u b - 1) 0 ≡ 10
unfolding line_ending
ending_lf u b h = go (stands (bytes "\n") u b) refl (stands crlf u b) refl h
  where
    go : (x : Bool) → stands (bytes "\n") u b ≡ x → (y : Bool) → stands crlf u b ≡ y → 0 < (if x then 1 else if y then 2 else 0) → get_or u (b + (if x then 1 else if y then 2 else 0) - 1) 0 ≡ 10
    go true e y f l =
        let i : b + 1 - 1 ≡ b = omega arith in
        ap (λ (n : ℕ). get_or u n 0) i ∙ (stands_byte 10 [] u b e).1.0
    go false e true f l =
        let i : b + 2 - 1 ≡ b + 1 = omega arith in
        ap (λ (n : ℕ). get_or u n 0) i ∙ (stands_byte 10 [] u (b + 1) (stands_byte 13 (10 ∷ []) u b f).1.1).1.0
    go false e false f l = absurd (omega arith)

-- CRLF at k: an LF at k + 1
pub crlf_lf : (u : List ℕ) (k : ℕ) → stands crlf u k ≡ true → get_or u (k + 1) 0 ≡ 10
crlf_lf u k h = (stands_byte 10 [] u (k + 1) (stands_byte 13 (10 ∷ []) u k h).1.1).1.0

-- Each fixed text begins with CRLF.
pub record Opens (t : List ℕ) : Type 0 where
  pub rest : List ℕ
  pub front : t ≡ crlf ++ rest
  pub long : 3 ≤ length t

pub opens : (l : Fixed) → Opens (fixed_text l)
opens fixed.Ok = record { rest = bytes "OK\r\n"; front = refl; long = omega arith }
opens fixed.Connect = record { rest = bytes "CONNECT\r\n"; front = refl; long = omega arith }
opens fixed.Error = record { rest = bytes "ERROR\r\n"; front = refl; long = omega arith }
opens fixed.CommandNotSupport = record { rest = bytes "COMMAND NOT SUPPORT\r\n"; front = refl; long = omega arith }
opens fixed.NoCarrier = record { rest = bytes "NO CARRIER\r\n"; front = refl; long = omega arith }
opens fixed.Busy = record { rest = bytes "BUSY\r\n"; front = refl; long = omega arith }
opens fixed.NoAnswer = record { rest = bytes "NO ANSWER\r\n"; front = refl; long = omega arith }
opens fixed.NoDialtone = record { rest = bytes "NO DIALTONE\r\n"; front = refl; long = omega arith }
opens fixed.Na = record { rest = bytes "NA\r\n"; front = refl; long = omega arith }
opens fixed.Cme = record { rest = bytes "+CME ERROR:"; front = refl; long = omega arith }
opens fixed.Cms = record { rest = bytes "+CMS ERROR:"; front = refl; long = omega arith }
opens fixed.Modem = record { rest = bytes "MODEM ERROR:"; front = refl; long = omega arith }
opens fixed.ConnectText = record { rest = bytes "CONNECT "; front = refl; long = omega arith }

-- A line ends in LF.
abbrev pub Last : List ℕ → Type 0
Last t = get_or t (length t - 1) 0 ≡ 10

pub wrapped_opens : (x : List ℕ) → Opens (wrapped x)
wrapped_opens x = record { rest = x ++ crlf; front = refl; long = omega (arith, wrapped_length x) }

pub wrapped_last : (x : List ℕ) → Last (wrapped x)
wrapped_last x =
    let l = wrapped_length x in
    let e : length (wrapped x) - 1 ≡ 2 + (length x + 1) = omega arith in
    ap (λ (n : ℕ). get_or (wrapped x) n 0) e ∙ get_or-append-add crlf (x ++ crlf) (length x + 1) 0 ∙ get_or-append-add x crlf 1 0

pub stands_here : (t s : List ℕ) (k : ℕ) → stands t s k ≡ stands t (drop k s) 0
stands_here t s k = ap (stands t s) (sym (add-zero k)) ∙ sym (stands_drop t s k 0)

-- a CONNECT line with text (R-3), by its head and the first CRLF behind that
module _ (s : List ℕ) (k : ℕ) where
  pub texted_told : stands (fixed_text fixed.ConnectText) s k ≡ true → (q : ℕ) → find_in crlf s (k + 10) ≡ Some q → TextLine (drop k s) (q + 2 - k)
  texted_told h q f =
      let w = found_at crlf s (k + 10) q f in
      let i : k + (q - k) ≡ q = omega (arith, w.after) in
      record {
        q = q - k;
        head = sym (stands_here (fixed_text fixed.ConnectText) s k) ∙ h;
        behind = omega (arith, w.after);
        here = stands_drop crlf s k (q - k) ∙ ap (stands crlf s) i ∙ w.here;
        first = λ j a b. stands_drop crlf s k j ∙ w.first (k + j) (omega arith) (omega (arith, w.after));
        ended = omega (arith, w.after);
      }

  pub texted_is : (n : ℕ) (w : TextLine (drop k s) n) → find_in crlf s (k + 10) ≡ Some (k + w.q)
  texted_is n w =
      find_is crlf s (k + 10) (Some (k + w.q)) (record {
        after = omega (arith, w.behind);
        here = sym (stands_drop crlf s k w.q) ∙ w.here;
        first =
            λ j a b.
            let i : k + (j - k) ≡ j = omega arith in
            ap (stands crlf s) (sym i) ∙ sym (stands_drop crlf s k (j - k)) ∙ w.first (j - k) (omega arith) (omega arith);
      })

-- an ended notice ends in LF
pub notice_lf : (x u : List ℕ) (n : ℕ) → NoticeEnded x u n → (n ≤ length u) × ((length x + 3 ≤ n) × (get_or u (n - 1) 0 ≡ 10))
notice_lf x u n w = go w.ended
  where
    go : NoticeEnd u (line_ending u 0 + length x) n → (n ≤ length u) × ((length x + 3 ≤ n) × (get_or u (n - 1) 0 ≡ 10))
    go (crlf_end c d) =
        let f = stands_fits crlf u (line_ending u 0 + length x) (omega arith) c in
        let i : n - 1 ≡ line_ending u 0 + length x + 1 = omega arith in
        (omega arith, (omega (arith, w.opened), ap (λ (k : ℕ). get_or u k 0) i ∙ crlf_lf u (line_ending u 0 + length x) c))
    go (colon c q g h z d) =
        let f = stands_fits crlf u q (omega arith) h in
        let i : n - 1 ≡ q + 1 = omega arith in
        (omega arith, (omega (arith, w.opened), ap (λ (k : ℕ). get_or u k 0) i ∙ crlf_lf u q h))

module _ (d : Digester) (ts : List Token) (good : Texts ts) where
  -- what an item takes
  prompt_byte : (c : ℕ) (u : List ℕ) → FirstAlone c u → 1 ≤ length u
  prompt_byte c u w = omega (arith, stands_fits (c ∷ []) u w.q (omega arith) w.here)

  text_place : (x u : List ℕ) → is_text x ≡ true → EndsIn x u → 1 ≤ length u
  text_place x u t w = let l = text_some x t in omega (arith, stands_fits x u w.q (omega arith) w.here)

  text_long : (t u : List ℕ) → Opens t → stands t u 0 ≡ true → 3 ≤ length u
  text_long t u o h = let k = o.long in omega (arith, stands_fits t u 0 (omega arith) h)

  line_long : (ls : List Fixed) (u : List ℕ) (n : ℕ) → AnyOf (λ l. Line (fixed_text l) u n) ls → 3 ≤ length u
  line_long ls u n h = some_any (λ l. Line (fixed_text l) u n) (3 ≤ length u) (λ l v. text_long (fixed_text l) u (opens l) v.0) ls h

  custom_long : (l : List Entry) (u : List ℕ) (n : ℕ) → AnyOf (λ x. Line (wrapped x.text) u n) l → 3 ≤ length u
  custom_long l u n h = some_any (λ x. Line (wrapped x.text) u n) (3 ≤ length u) (λ x v. text_long (wrapped x.text) u (wrapped_opens x.text) v.0) l h

  numbers_long : (u : List ℕ) (n : ℕ) → AnyOf (λ h. NumericEnded (fixed_text h) u n) heads → 3 ≤ length u
  numbers_long u n h = some_any (λ x. NumericEnded (fixed_text x) u n) (3 ≤ length u) (λ x v. text_long (fixed_text x) u (opens x) v.head) heads h

  texted_long : (u : List ℕ) (n : ℕ) → TextLine u n → 3 ≤ length u
  texted_long u n h = text_long (fixed_text fixed.ConnectText) u (opens fixed.ConnectText) h.head

  notice_room : (l : List Entry) (u : List ℕ) (n : ℕ) → AnyOf (λ x. NoticeEnded x.text u n) l → 3 ≤ length u
  notice_room l u n h = some_any (λ x. NoticeEnded x.text u n) (3 ≤ length u) (λ x v. let b = notice_lf x.text u n v in omega (arith, b.0, b.1.0)) l h

  pub item_some : (u : List ℕ) (n : ℕ) → Item d ts u n → 1 ≤ length u
  item_some u n (items.notice h) = omega (arith, notice_room (of_mark mark.Notice 0 ts) u n h)
  item_some u n (items.line h) = omega (arith, line_long nine u n h)
  item_some u n (items.text z h) = omega (arith, texted_long u n h)
  item_some u n (items.custom_success h) = omega (arith, custom_long (of_mark mark.Success 0 ts) u n h)
  item_some u n (items.custom_error h) = omega (arith, custom_long (of_mark mark.Error 0 ts) u n h)
  item_some u n (items.numeric h) = omega (arith, numbers_long u n h)
  item_some u n (items.prompt (inl h) g) = prompt_byte 62 u h
  item_some u n (items.prompt (inr h) g) = prompt_byte 64 u h
  item_some u n (items.custom_prompt h g) = some_texts (λ x. EndsIn x.text u) (1 ≤ length u) (λ x t v. text_place x.text u t v) (of_mark mark.Prompt 0 ts) (mark_texts mark.Prompt 0 ts good) h

  pub item_size : (u : List ℕ) (n : ℕ) → Item d ts u n → 1 ≤ n
  item_size u n (items.notice h) = some_any (λ x. NoticeEnded x.text u n) (1 ≤ n) (λ x v. omega (arith, notice_lf x.text u n v)) (of_mark mark.Notice 0 ts) h
  item_size u n (items.line h) = some_any (λ l. Line (fixed_text l) u n) (1 ≤ n) (λ l v. omega (arith, (opens l).long, v.1)) nine h
  item_size u n (items.text z h) = omega (arith, h.ended)
  item_size u n (items.custom_success h) = some_any (λ x. Line (wrapped x.text) u n) (1 ≤ n) (λ x v. omega (arith, v.1, wrapped_length x.text)) (of_mark mark.Success 0 ts) h
  item_size u n (items.custom_error h) = some_any (λ x. Line (wrapped x.text) u n) (1 ≤ n) (λ x v. omega (arith, v.1, wrapped_length x.text)) (of_mark mark.Error 0 ts) h
  item_size u n (items.numeric h) = some_any (λ x. NumericEnded (fixed_text x) u n) (1 ≤ n) (λ x v. omega (arith, v.ended)) heads h
  item_size u n (items.prompt h g) = rw g (item_some u (length u) (items.prompt h refl))
  item_size u n (items.custom_prompt h g) = rw g (item_some u (length u) (items.custom_prompt h refl))

  -- at a CRLF an item takes a byte more than that
  byte_behind : (u : List ℕ) (q b : ℕ) → stands crlf u 0 ≡ true → get_or u q 0 ≡ b → (b ≡ 13 → ⊥) → (b ≡ 10 → ⊥) → 2 ≤ q
  byte_behind u zero b h e f g = absurd (f (sym e ∙ (stands_byte 13 (10 ∷ []) u 0 h).1.0))
  byte_behind u (suc zero) b h e f g = absurd (g (sym e ∙ crlf_lf u 0 h))
  byte_behind u (suc (suc q)) b h e f g = omega arith

  pub item_long : (u : List ℕ) (n : ℕ) → stands crlf u 0 ≡ true → Item d ts u n → 3 ≤ length u
  item_long u n c (items.notice h) = notice_room (of_mark mark.Notice 0 ts) u n h
  item_long u n c (items.line h) = line_long nine u n h
  item_long u n c (items.text z h) = texted_long u n h
  item_long u n c (items.custom_success h) = custom_long (of_mark mark.Success 0 ts) u n h
  item_long u n c (items.custom_error h) = custom_long (of_mark mark.Error 0 ts) u n h
  item_long u n c (items.numeric h) = numbers_long u n h
  item_long u n c (items.prompt (inl h) g) = let b = stands_byte 62 [] u h.q h.here in omega (arith, b.0, byte_behind u h.q 62 c b.1.0 (λ z. omega arith) (λ z. omega arith))
  item_long u n c (items.prompt (inr h) g) = let b = stands_byte 64 [] u h.q h.here in omega (arith, b.0, byte_behind u h.q 64 c b.1.0 (λ z. omega arith) (λ z. omega arith))
  item_long u n c (items.custom_prompt h g) =
      some_texts (λ x. EndsIn x.text u) (3 ≤ length u)
      (λ x t v.
      let l = text_some x.text t in
      let f = stands_fits x.text u v.q (omega arith) v.here in
      let b : get_or u (v.q + 0) 0 ≡ get_or x.text 0 0 = stands_get_d x.text u v.q 0 v.here (omega arith) in
      let w = text_byte x.text t 0 (omega arith) in
      let k : v.q + 0 ≡ v.q = omega arith in
      omega (arith, byte_behind u v.q (get_or x.text 0 0) c (ap (λ (m : ℕ). get_or u m 0) (sym k) ∙ b) (λ z. omega arith) (λ z. omega arith)))
      (of_mark mark.Prompt 0 ts) (mark_texts mark.Prompt 0 ts good) h

  -- with no CRLF in sight an item is a prompt
  no_crlf_line : (u : List ℕ) → ((j : ℕ) → stands crlf u j ≡ false) → (t r : List ℕ) → t ≡ crlf ++ r → stands t u 0 ≡ true → ⊥
  no_crlf_line u h t r e g = false_true (stands_front crlf r u 0 (rw e at g)) (h 0)

  no_crlf_notice : (u : List ℕ) → ((j : ℕ) → stands crlf u j ≡ false) → (x : List ℕ) (n : ℕ) → NoticeEnded x u n → ⊥
  no_crlf_notice u h x n w = go w.ended
    where
      go : NoticeEnd u (line_ending u 0 + length x) n → ⊥
      go (crlf_end c d) = false_true c (h (line_ending u 0 + length x))
      go (colon c q g v z d) = false_true v (h q)

  no_crlf_custom : (u : List ℕ) → ((j : ℕ) → stands crlf u j ≡ false) → (l : List Entry) (n : ℕ) → AnyOf (λ x. Line (wrapped x.text) u n) l → ⊥
  no_crlf_custom u h l n g = some_any (λ x. Line (wrapped x.text) u n) ⊥ (λ x v. no_crlf_line u h (wrapped x.text) (x.text ++ crlf) refl v.0) l g

  pub no_crlf_item : (u : List ℕ) → ((j : ℕ) → stands crlf u j ≡ false) → (n : ℕ) → Item d ts u n → (FirstAlone 62 u ⊎ FirstAlone 64 u) ⊎ AnyOf (λ x. EndsIn x.text u) (of_mark mark.Prompt 0 ts)
  no_crlf_item u h n (items.notice g) = absurd (some_any (λ x. NoticeEnded x.text u n) ⊥ (λ x v. no_crlf_notice u h x.text n v) (of_mark mark.Notice 0 ts) g)
  no_crlf_item u h n (items.line g) = absurd (some_any (λ l. Line (fixed_text l) u n) ⊥ (λ l v. no_crlf_line u h (fixed_text l) (opens l).rest (opens l).front v.0) nine g)
  no_crlf_item u h n (items.text y g) = absurd (false_true g.here (h g.q))
  no_crlf_item u h n (items.custom_success g) = absurd (no_crlf_custom u h (of_mark mark.Success 0 ts) n g)
  no_crlf_item u h n (items.custom_error g) = absurd (no_crlf_custom u h (of_mark mark.Error 0 ts) n g)
  no_crlf_item u h n (items.numeric g) = absurd (some_any (λ x. NumericEnded (fixed_text x) u n) ⊥ (λ x v. no_crlf_line u h (fixed_text x) (opens x).rest (opens x).front v.head) heads g)
  no_crlf_item u h n (items.prompt g z) = inl g
  no_crlf_item u h n (items.custom_prompt g z) = inr g
