-- A body that holds no list: what stands at its place tells what it is, or which fault is the first there.
use Rattle.std.specs.Prelude.{Ok, Err, ◌≡◌, Bool, ◌&&◌, ◌||◌, get_or, take, drop, if◌then◌else◌}
use Rattle.std.proofs.Math.Path.{refl, sym, ap, subst}
use Rattle.std.proofs.Common.{◌∙◌, arith, take-append-drop, length-take-le}
use Rattle.std.proofs.Math.Logic.{inl, inr}
use Rattle.std.proofs.Math.Bool.{true, false, not}
use mathlib.Core.List.Memᴰ
use mathlib.Core.List.{List, [], ◌∷◌, ◌++◌, append_assoc, append-nil}
use Prim.Native.Nat.{ℕ, zero, suc, ◌+◌, ◌≤◌, ◌<◌}
use Rattle.std.proofs.Math.ListN.{length, length-append}
use Rattle.std.proofs.Math.Dec.{eqb}
use borrow.Author.Tests.{le-leb, lt-leb, eqb-true}
use Rattle.text.specs.Logic.{false_true}
use Rattle.text.specs.Text.{lead}
use Rattle.text.specs.Laws.{lead_le}
use Rattle.parser.specs.Parser.{is_digit, value}
use Rattle.pieces.specs.declared.Kind.TheVariants as kinds
use Rattle.lists.specs.declared.ListError.TheVariants.{Malformed, TooLarge, TooMany}
use Rattle.lists.specs.Grammar.{digits, is_number, empty, number, range, string, piece_word, word, made, elements, too_large, too_many, over}
use Rattle.lists.specs.Scan.{at, start, low, dash, done, closed, behind, step, is_dead, rests, outside, final, many, limit, fault_in, stop, scan}
use Rattle.lists.specs.Ends.{is_number_lem, number_digits}
use Rattle.lists.specs.Strings.{Closed, Breaks-off, no_owing}
use Rattle.lists.specs.Shows.{large_fault, second_fault, large_there}
use Rattle.lists.specs.Onward.{value_stops, scan_quote, scan_dash, scan_number, scan_second, low_done, high_done, empty_done}
use Rattle.lists.specs.Places.{here_stops}
use Rattle.lists.specs.Reader.{unknown, comma, close, Bodied, ends_at, ends_follow, Bare, bare_fault, late_listed, few_unlisted, large_listed, small_unlisted}

-- an empty body
module _ (d n p : ℕ) (x : List ℕ) (h : Bare x) where
  pub empty_malformed : ends_at d x ≡ false → Bodied d n p x (Err (Malformed p))
  unfolding word
  empty_malformed e =
      record {
        tree = empty;
        after = unknown;
        seen = [];
        rest = x;
        other = [];
        here = refl;
        there = refl;
        why = inl (refl, omega arith);
        verdict = here_stops (at start d n) p 6 x (bare_fault d n x h e) (omega arith);
      }

  pub empty_is : n < 256 → ends_at d x ≡ true → Bodied d n p x (Ok (made p p kinds.Empty d 0 0))
  unfolding word over elements
  empty_is g e =
      record {
        tree = empty;
        rest = x;
        parts = refl;
        gives = refl;
        end = omega arith;
        count = omega arith;
        few = omega arith;
        within = few_unlisted p n g;
        onward = empty_done d n p g x (ends_follow d x e);
        ended = λ e. absurd (false_true e refl);
      }

-- the 257th element, whatever it is
module _ (n : ℕ) (g : 256 ≤ n) (x : List ℕ) where
  comma_fault : (d : ℕ) → fault_in (at start d n) (44 ∷ x) ≡ 9
  unfolding fault_in step is_digit behind is_dead limit many
  comma_fault d = rw (le-leb 256 n g)

  close_fault : (d : ℕ) → 0 < d → fault_in (at start d n) (41 ∷ x) ≡ 9
  unfolding fault_in step is_digit behind closed is_dead limit many
  close_fault zero f = absurd (omega arith)
  close_fault (suc d) f = rw (le-leb 256 n g)

  quote_fault : (d : ℕ) → fault_in (at start d n) (34 ∷ x) ≡ 9
  unfolding fault_in step is_digit is_dead limit many
  quote_fault d = rw (le-leb 256 n g)

  pub open_fault : (d : ℕ) → d < 4 → fault_in (at start d n) (40 ∷ x) ≡ 9
  unfolding fault_in step is_digit is_dead limit many
  open_fault d f = rw (lt-leb 4 d f, le-leb 256 n g)

  digit_fault : (d b : ℕ) → is_digit b ≡ true → value 0 (b ∷ x) ≤ 4294967295 → fault_in (at start d n) (b ∷ x) ≡ 9
  unfolding fault_in step is_dead limit many
  digit_fault d b e f = rw (e, le-leb (value 0 (b ∷ x)) 4294967295 f, le-leb 256 n g)

end_fault : (d n : ℕ) → d ≡ 0 → 256 ≤ n → fault_in (at start d n) [] ≡ 9
unfolding fault_in final rests limit many
end_fault d n e g = ap (λ (k : ℕ). fault_in (at start k n) []) e ∙ rw (le-leb 256 n g)

-- an empty body over the limit: what ends it shows it
module _ (d n p : ℕ) (g : 256 ≤ n) where
  late_comma : (x : List ℕ) → Bodied d n p (44 ∷ x) (Err (TooMany p))
  unfolding word over
  late_comma x =
      record {
        tree = empty;
        after = comma refl;
        seen = 44 ∷ [];
        rest = x;
        other = [];
        here = refl;
        there = refl;
        why = inr (record { shown = suc p; among = late_listed p n g; enough = inl (omega arith) });
        verdict = here_stops (at start d n) p 9 (44 ∷ x) (comma_fault n g x d) (omega arith);
      }

  late_close : (x : List ℕ) → 0 < d → Bodied d n p (41 ∷ x) (Err (TooMany p))
  unfolding word over
  late_close x f =
      record {
        tree = empty;
        after = close f;
        seen = 41 ∷ [];
        rest = x;
        other = [];
        here = refl;
        there = refl;
        why = inr (record { shown = suc p; among = late_listed p n g; enough = inl (omega arith) });
        verdict = here_stops (at start d n) p 9 (41 ∷ x) (close_fault n g x d f) (omega arith);
      }

  late_end : d ≡ 0 → Bodied d n p [] (Err (TooMany p))
  unfolding word over
  late_end f =
      record {
        tree = empty;
        after = unknown;
        seen = [];
        rest = [];
        other = [];
        here = refl;
        there = refl;
        why = inr (record { shown = suc p; among = late_listed p n g; enough = inr (refl, (refl, f)) });
        verdict = here_stops (at start d n) p 9 [] (end_fault d n f g) (omega arith);
      }

  pub empty_late : (x : List ℕ) → ends_at d x ≡ true → Bodied d n p x (Err (TooMany p))
  unfolding ends_at
  empty_late [] e = late_end (outside_zero d e)
    where
      outside_zero : (k : ℕ) → outside k ≡ true → k ≡ 0
      outside_zero zero f = refl
      outside_zero (suc k) f = absurd (false_true f refl)
  empty_late (b ∷ x) e = go (eqb b 44) (eqb b 41) refl refl d refl e
    where
      go : (c k : Bool) → eqb b 44 ≡ c → eqb b 41 ≡ k → (i : ℕ) → d ≡ i → c || (k && not (outside i)) ≡ true → Bodied d n p (b ∷ x) (Err (TooMany p))
      go true k f h i l q = subst (λ (a : ℕ). Bodied d n p (a ∷ x) (Err (TooMany p))) (sym (eqb-true b 44 f)) (late_comma x)
      go false true f h zero l q = absurd (false_true q refl)
      go false true f h (suc i) l q = subst (λ (a : ℕ). Bodied d n p (a ∷ x) (Err (TooMany p))) (sym (eqb-true b 41 h)) (late_close x (omega arith))
      go false false f h i l q = absurd (false_true q refl)

-- a string, whose first quote stands at p
module _ (d n p : ℕ) (x : List ℕ) where
  pub string_late : 256 ≤ n → Bodied d n p (34 ∷ x) (Err (TooMany p))
  unfolding word piece_word over
  string_late g =
      record {
        tree = string [];
        after = unknown;
        seen = 34 ∷ [];
        rest = x;
        other = 34 ∷ [];
        here = refl;
        there = refl;
        why = inr (record { shown = suc p; among = late_listed p n g; enough = inl (omega arith) });
        verdict = here_stops (at start d n) p 9 (34 ∷ x) (quote_fault n g x d) (omega arith);
      }

  module _ (g : n < 256) where
    pub string_is : (e : ℕ) → Closed d (suc n) 0 (suc p) x e → Bodied d n p (34 ∷ x) (Ok (made p e kinds.String d 0 0))
    unfolding word over elements
    string_is e w =
        let o = no_owing w.owing w.many in
        let y : e ≡ p + length (word (string w.pieces)) = omega (arith, w.end, length-append (piece_word w.pieces) (34 ∷ []), ap (λ (l : List ℕ). length (l ++ piece_word w.pieces)) o) in
        record {
          tree = string w.pieces;
          rest = w.rest;
          parts = ap (λ (l : List ℕ). 34 ∷ l) (w.parts ∙ ap (λ (l : List ℕ). l ++ (piece_word w.pieces ++ 34 ∷ w.rest)) o ∙ sym (append_assoc (piece_word w.pieces) (34 ∷ []) w.rest));
          gives = ap (λ (i : ℕ). made p i kinds.String d 0 0 ∷ []) (sym y);
          end = y;
          count = omega arith;
          few = omega arith;
          within = few_unlisted p n g;
          onward = scan_quote d n p x g ∙ w.onward;
          ended = λ e. absurd (false_true e refl);
        }

    pub string_broken : (q : ℕ) → Breaks-off d (suc n) 0 (suc p) x q → Bodied d n p (34 ∷ x) (Err (Malformed q))
    unfolding word over
    string_broken q w =
        let o = no_owing w.owing w.many in
        record {
          tree = string w.pieces;
          after = unknown;
          seen = 34 ∷ w.seen;
          rest = w.rest;
          other = w.other;
          here = ap (λ (l : List ℕ). 34 ∷ l) w.here;
          there = append-nil (word (string w.pieces)) ∙ ap (λ (l : List ℕ). 34 ∷ l) (ap (λ (l : List ℕ). l ++ (piece_word w.pieces ++ 34 ∷ [])) (sym o) ∙ w.there);
          why = inl (refl, omega (arith, w.place));
          verdict = scan_quote d n p x g ∙ w.verdict;
        }

-- a number, and what follows it
pub record Run (x : List ℕ) (j : ℕ) : Type 0 where
  pub run : List ℕ
  pub rest : List ℕ
  pub parts : x ≡ run ++ rest
  pub number : is_number run ≡ true
  pub over_at : is_digit (get_or rest 0 0) ≡ false
  pub long : j ≡ length run
  pub left : rest ≡ drop j x

-- what follows the bytes that pass f is no such byte
pub lead_over : (f : ℕ → Bool) → f 0 ≡ false → (x : List ℕ) → f (get_or (drop (lead f x) x) 0 0) ≡ false
unfolding lead
lead_over f z [] = z
lead_over f z (b ∷ x) = go (f b) refl (lead_over f z x)
  where
    go : (c : Bool) → f b ≡ c → f (get_or (drop (lead f x) x) 0 0) ≡ false → f (get_or (drop (if c then suc (lead f x) else zero) (b ∷ x)) 0 0) ≡ false
    go true e h = h
    go false e h = e

-- the longest run of digits
digit_run : (x : List ℕ) → digits (take (lead is_digit x) x) ≡ true
unfolding lead digits
digit_run [] = refl
digit_run (b ∷ x) = go (is_digit b) refl (digit_run x)
  where
    go : (c : Bool) → is_digit b ≡ c → digits (take (lead is_digit x) x) ≡ true → digits (take (if c then suc (lead is_digit x) else zero) (b ∷ x)) ≡ true
    go true e h = rw e h
    go false e h = refl

zero_digit : is_digit 0 ≡ false
unfolding is_digit
zero_digit = refl

number_run : (x : List ℕ) → is_digit (get_or x 0 0) ≡ true → is_number (take (lead is_digit x) x) ≡ true
unfolding is_number lead
number_run [] e = absurd (false_true e zero_digit)
number_run (b ∷ x) e = rw e (rw e (digit_run x))

pub runs : (x : List ℕ) → is_digit (get_or x 0 0) ≡ true → Run x (lead is_digit x)
runs x e =
    record {
      run = take (lead is_digit x) x;
      rest = drop (lead is_digit x) x;
      parts = sym (take-append-drop (lead is_digit x) x);
      number = number_run x e;
      over_at = lead_over is_digit zero_digit x;
      long = sym (length-take-le (lead is_digit x) x (lead_le is_digit x));
      left = refl;
    }

dash_fault : (d n : ℕ) (x : List ℕ) → is_digit (get_or x 0 0) ≡ false → fault_in (at dash d n) x ≡ 6
unfolding fault_in final rests step is_dead
dash_fault d n [] e = refl
dash_fault d n (b ∷ x) e = rw e

-- a number or a range, whose first digit stands at p
module _ (d n p j : ℕ) (x : List ℕ) (r : Run x j) where
  value_run : value 0 x ≡ value 0 r.run
  value_run = ap (value 0) r.parts ∙ value_stops 0 r.run r.rest (number_digits r.run r.number) r.over_at

  pub number_large : 4294967295 < value 0 x → Bodied d n p x (Err (TooLarge p))
  unfolding word over
  number_large h =
      record {
        tree = number r.run r.number;
        after = unknown;
        seen = r.run;
        rest = r.rest;
        other = [];
        here = r.parts;
        there = refl;
        why = inr (record { shown = p + length r.run; among = Memᴰ.append_left (too_many n p) (large_listed p r.run (omega (arith, value_run))); enough = inl refl });
        verdict = here_stops (at start d n) p 8 x (large_there r.run x r.rest r.number (omega (arith, value_run)) r.parts (at start d n) (λ b z. large_fault d n b z)) (omega arith);
      }

  module _ (h : value 0 x ≤ 4294967295) where
    pub number_late : 256 ≤ n → Bodied d n p x (Err (TooMany p))
    unfolding word over
    number_late g =
        let k = is_number_lem r.run r.number in
        record {
          tree = number r.run r.number;
          after = unknown;
          seen = k.first ∷ [];
          rest = k.others ++ r.rest;
          other = k.others;
          here = r.parts ∙ ap (λ (l : List ℕ). l ++ r.rest) k.parts;
          there = append-nil r.run ∙ k.parts;
          why = inr (record { shown = suc p; among = Memᴰ.append_right (too_large r.run p) (late_listed p n g); enough = inl (omega arith) });
          verdict =
              here_stops (at start d n) p 9 x
              (let parts = r.parts ∙ ap (λ (l : List ℕ). l ++ r.rest) k.parts in
              ap (fault_in (at start d n)) parts ∙ digit_fault n g (k.others ++ r.rest) d k.first k.digit (subst (λ (l : List ℕ). value 0 l ≤ 4294967295) parts h))
              (omega arith);
        }

    module _ (g : n < 256) where
      small_run : value 0 r.run ≤ 4294967295
      small_run = omega (arith, value_run)

      small_parts : value 0 (r.run ++ r.rest) ≤ 4294967295
      small_parts = subst (λ (l : List ℕ). value 0 l ≤ 4294967295) r.parts h

      to_low : scan (at start d n) p x ≡ scan (at low d (suc n)) (p + length r.run) r.rest
      to_low = ap (scan (at start d n) p) r.parts ∙ scan_number d n p r.run r.rest r.number small_parts g

      pub number_is : eqb (get_or r.rest 0 0) 45 ≡ false → Bodied d n p x (Ok (made p (p + j) kinds.Number d (value 0 x) (value 0 x)))
      unfolding word over elements
      number_is e =
          record {
            tree = number r.run r.number;
            rest = r.rest;
            parts = r.parts;
            gives = rw (r.long, value_run);
            end = ap (λ (i : ℕ). p + i) r.long;
            count = omega arith;
            few = omega arith;
            within = rw (small_unlisted p r.run small_run) (few_unlisted p n g);
            onward = to_low ∙ low_done d (suc n) (p + length r.run) r.rest r.over_at e ∙ ap (λ (i : ℕ). scan (at done d (suc n)) (p + i) r.rest) (sym r.long);
            ended = λ e. absurd (false_true e refl);
          }

      -- the second number of a range
      module _ (y : List ℕ) (f : r.rest ≡ 45 ∷ y) where
        to_dash : scan (at start d n) p x ≡ scan (at dash d (suc n)) (suc (p + length r.run)) y
        to_dash = to_low ∙ ap (scan (at low d (suc n)) (p + length r.run)) f ∙ scan_dash d (suc n) (p + length r.run) y

        pub range_malformed : is_digit (get_or y 0 0) ≡ false → Bodied d n p x (Err (Malformed (p + j + 1)))
        unfolding word over is_number digits is_digit
        range_malformed e =
            record {
              tree = range r.run (48 ∷ []) r.number refl;
              after = unknown;
              seen = r.run ++ 45 ∷ [];
              rest = y;
              other = 48 ∷ [];
              here = r.parts ∙ ap (λ (l : List ℕ). r.run ++ l) f ∙ sym (append_assoc r.run (45 ∷ []) y);
              there = append-nil (r.run ++ 45 ∷ 48 ∷ []) ∙ sym (append_assoc r.run (45 ∷ []) (48 ∷ []));
              why = inl (refl, omega (arith, length-append r.run (45 ∷ []), r.long));
              verdict =
                  to_dash
                  ∙ here_stops (at dash d (suc n)) (suc (p + length r.run)) 6 y (dash_fault d (suc n) y e) (omega arith)
                  ∙ ap (stop 6) (omega (arith, r.long));
            }

        module _ (i : ℕ) (r₂ : Run y i) where
          range_parts : x ≡ (r.run ++ 45 ∷ r₂.run) ++ r₂.rest
          range_parts = r.parts ∙ ap (λ (l : List ℕ). r.run ++ l) (f ∙ ap (λ (l : List ℕ). 45 ∷ l) r₂.parts) ∙ sym (append_assoc r.run (45 ∷ r₂.run) r₂.rest)

          second_run : value 0 y ≡ value 0 r₂.run
          second_run = ap (value 0) r₂.parts ∙ value_stops 0 r₂.run r₂.rest (number_digits r₂.run r₂.number) r₂.over_at

          pub range_large : 4294967295 < value 0 y → Bodied d n p x (Err (TooLarge (p + j + 1)))
          unfolding word over
          range_large l =
              record {
                tree = range r.run r₂.run r.number r₂.number;
                after = unknown;
                seen = r.run ++ 45 ∷ r₂.run;
                rest = r₂.rest;
                other = [];
                here = range_parts;
                there = refl;
                why =
                    inr
                    (record {
                      shown = suc (p + length r.run) + length r₂.run;
                      among =
                          Memᴰ.cast (λ k. record { refusal = 8; place = place_second k; shown = suc (p + length r.run) + length r₂.run })
                          (Memᴰ.append_right (too_large r.run p) (Memᴰ.append_right (too_many n p) (large_listed (suc (p + length r.run)) r₂.run (omega (arith, second_run)))));
                      enough = inl (omega (arith, length-append r.run (45 ∷ r₂.run)));
                    });
                verdict =
                    to_dash
                    ∙ here_stops (at dash d (suc n)) (suc (p + length r.run)) 8 y (large_there r₂.run y r₂.rest r₂.number (omega (arith, second_run)) r₂.parts (at dash d (suc n)) (λ b z. second_fault d (suc n) b z)) (omega arith)
                    ∙ ap (stop 8) (sym place_second);
              }
            where
              place_second : p + j + 1 ≡ suc (p + length r.run)
              place_second = omega (arith, r.long)

          pub range_is : value 0 y ≤ 4294967295 → Bodied d n p x (Ok (made p (p + j + 1 + i) kinds.Range d (value 0 x) (value 0 y)))
          unfolding word over elements
          range_is l =
              let e : p + j + 1 + i ≡ p + length (r.run ++ 45 ∷ r₂.run) = omega (arith, r.long, r₂.long, length-append r.run (45 ∷ r₂.run)) in
              let w : value 0 r₂.run ≤ 4294967295 = omega (arith, second_run) in
              record {
                tree = range r.run r₂.run r.number r₂.number;
                rest = r₂.rest;
                parts = range_parts;
                gives = rw (e, value_run, second_run);
                end = e;
                count = omega arith;
                few = omega arith;
                within = rw (small_unlisted p r.run small_run, few_unlisted p n g) (small_unlisted (suc (p + length r.run)) r₂.run w);
                onward =
                    to_dash
                    ∙ ap (scan (at dash d (suc n)) (suc (p + length r.run))) r₂.parts
                    ∙ scan_second d (suc n) (suc (p + length r.run)) r₂.run r₂.rest r₂.number (subst (λ (k : List ℕ). value 0 k ≤ 4294967295) r₂.parts l)
                    ∙ high_done d (suc n) (suc (p + length r.run) + length r₂.run) r₂.rest r₂.over_at
                    ∙ ap (λ (k : ℕ). scan (at done d (suc n)) k r₂.rest) (omega (arith, r.long, r₂.long));
                ended = λ e. absurd (false_true e refl);
              }
