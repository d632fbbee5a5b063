-- From bodies to lists: what is read, or refused, with what stands around it, and what is left in the memory.
use Rattle.std.specs.Prelude.{◌≡◌, ◌⊎◌, false, get_or, eqb}
use Rattle.std.proofs.Math.Path.{refl, sym, ap}
use Rattle.std.proofs.Common.{◌∙◌, subst, arith}
use Rattle.std.proofs.Math.Logic.{inl, inr, ⊎_elim}
use mathlib.Core.List.Memᴰ
use mathlib.Core.List.{List, [], ◌∷◌, ◌++◌, append_assoc, append-nil}
use Prim.Native.Nat.{ℕ, suc, ◌+◌, ◌≤◌, ◌<◌}
use Rattle.std.proofs.Math.ListN.{length, replicate, length-append, length-replicate}
use Rattle.text.specs.Logic.{false_true}
use Rattle.pieces.specs.declared.Kind.TheVariants as kinds
use Rattle.pieces.specs.declared.Element.{Element}
use Rattle.lists.specs.Grammar.{Symbol, body, element, list, Derivation, empty, bracket, spaced, one, more, word, made, elements, too_deep, too_many, over}
use Rattle.lists.specs.Scan.{at, start, done, scan}
use Rattle.lists.specs.Places.{here_stops}
use Rattle.lists.specs.Shows.{deep_fault}
use Rattle.lists.specs.Onward.{scan_open, scan_comma, scan_close, scan_spaces}
use Rattle.lists.specs.Bodies.{open_fault}
use Rattle.lists.specs.Reader.{Read, Halted, Limited, After, unknown, comma, close, following, ends_at, done_fault, late_listed, few_unlisted, deep_listed, shallow_unlisted}

-- counts, places and bytes, however they are written
module _ {c : Symbol} {d n m p q : ℕ} {x y : List ℕ} (e : n ≡ m) (f : p ≡ q) (g : x ≡ y) where
  read_at : {es : List Element} {z k : ℕ} → Read c d n p x es z k → Read c d m q y es z k
  read_at {es} {z} {k} w = subst (λ (l : List ℕ). Read c d m q l es z k) g (subst (λ (i : ℕ). Read c d m i x es z k) f (subst (λ (i : ℕ). Read c d i p x es z k) e w))

  refused_at_lem : {z k : ℕ} → Halted c d n p x k z → Halted c d m q y k z
  refused_at_lem {z} {k} w = subst (λ (l : List ℕ). Halted c d m q l k z) g (subst (λ (i : ℕ). Halted c d m i x k z) f (subst (λ (i : ℕ). Halted c d i p x k z) e w))

-- an element is a body behind spaces
module _ (d n p m : ℕ) (x y : List ℕ) (f : x ≡ replicate m 32 ++ y) where
  pub spaced_read : (es : List Element) (e k : ℕ) → Read body d n (p + m) y es e k → Read element d n p x es e k
  unfolding word elements over
  spaced_read es e k w =
      record {
        tree = spaced m w.tree;
        rest = w.rest;
        parts = f ∙ ap (λ (l : List ℕ). replicate m 32 ++ l) w.parts ∙ sym (append_assoc (replicate m 32) (word w.tree) w.rest);
        gives = w.gives;
        end = omega (arith, w.end, length-append (replicate m 32) (word w.tree), length-replicate {A = ℕ} m 32);
        count = w.count;
        few = w.few;
        within = w.within;
        onward = ap (scan (at start d n) p) f ∙ scan_spaces d n p m y ∙ w.onward;
        ended = λ e. absurd (false_true e refl);
      }

  follows : After body d → After element d
  follows unknown = unknown
  follows (comma h) = comma refl
  follows (close h) = close h

  same_following : (a : After body d) → following (follows a) ≡ following a
  unfolding follows
  same_following unknown = refl
  same_following (comma h) = refl
  same_following (close h) = refl

  pub spaced_refused : (k q : ℕ) → Halted body d n (p + m) y k q → Halted element d n p x k q
  unfolding word over
  spaced_refused k q w =
      let l : length (replicate m 32 ++ w.seen) ≡ m + length w.seen = length-append (replicate m 32) w.seen ∙ ap (λ (i : ℕ). i + length w.seen) (length-replicate m 32) in
      record {
        tree = spaced m w.tree;
        after = follows w.after;
        seen = replicate m 32 ++ w.seen;
        rest = w.rest;
        other = w.other;
        here = f ∙ ap (λ (l : List ℕ). replicate m 32 ++ l) w.here ∙ sym (append_assoc (replicate m 32) w.seen w.rest);
        there =
            ap (λ (l : List ℕ). (replicate m 32 ++ word w.tree) ++ l) (same_following w.after)
            ∙ append_assoc (replicate m 32) (word w.tree) (following w.after)
            ∙ ap (λ (l : List ℕ). replicate m 32 ++ l) w.there
            ∙ sym (append_assoc (replicate m 32) w.seen w.other);
        why = ⊎_elim (λ h. inl (h.0, omega (arith, h.1, l))) (λ h. inr (record { shown = h.shown; among = h.among; enough = ⊎_elim (λ g. inl (omega (arith, g, l))) inr h.enough })) w.why;
        verdict = ap (scan (at start d n) p) f ∙ scan_spaces d n p m y ∙ w.verdict;
      }

-- a bracket that opens at p, with x behind it
module _ (d n p : ℕ) (x : List ℕ) where
  pub bracket_deep : 4 ≤ d → Halted body d n p (40 ∷ x) 7 p
  unfolding word over
  bracket_deep h =
      record {
        tree = bracket (one (spaced 0 empty));
        after = unknown;
        seen = 40 ∷ [];
        rest = x;
        other = 41 ∷ [];
        here = refl;
        there = refl;
        why = inr (record { shown = suc p; among = Memᴰ.append_left (too_many n p ++ over (one (spaced 0 empty)) (suc d) (suc p) (suc n)) (deep_listed p d h); enough = inl (omega arith) });
        verdict = here_stops (at start d n) p 7 (40 ∷ x) (deep_fault d n x h) (omega arith);
      }

  module _ (h : d < 4) where
    pub bracket_late : 256 ≤ n → Halted body d n p (40 ∷ x) 9 p
    unfolding word over
    bracket_late g =
        record {
          tree = bracket (one (spaced 0 empty));
          after = unknown;
          seen = 40 ∷ [];
          rest = x;
          other = 41 ∷ [];
          here = refl;
          there = refl;
          why = inr (record { shown = suc p; among = Memᴰ.append_right (too_deep d p) (Memᴰ.append_left (over (one (spaced 0 empty)) (suc d) (suc p) (suc n)) (late_listed p n g)); enough = inl (omega arith) });
          verdict = here_stops (at start d n) p 9 (40 ∷ x) (open_fault n g x d h) (omega arith);
        }

    module _ (g : n < 256) where
      pub bracket_refused : (k q : ℕ) → Halted list (suc d) (suc n) (suc p) x k q → Halted body d n p (40 ∷ x) k q
      unfolding word over
      bracket_refused k q w =
          record {
            tree = bracket w.tree;
            after = unknown;
            seen = 40 ∷ w.seen;
            rest = w.rest;
            other = rest_of w.after w.other;
            here = ap (λ (l : List ℕ). 40 ∷ l) w.here;
            there = append-nil (word (bracket w.tree)) ∙ ap (λ (l : List ℕ). 40 ∷ l) (closes w.tree w.seen w.other w.after w.there);
            why =
                ⊎_elim
                (λ h. inl (h.0, omega (arith, h.1)))
                (λ h. inr (record { shown = h.shown; among = Memᴰ.append_right (too_deep d p) (Memᴰ.append_right (too_many n p) h.among); enough = ⊎_elim (λ g. inl (omega (arith, g))) (λ g. absurd (omega (arith, g.1.1))) h.enough }))
                w.why;
            verdict = scan_open d n p x h g ∙ w.verdict;
          }
        where
          rest_of : After list (suc d) → List ℕ → List ℕ
          rest_of unknown o = o ++ 41 ∷ []
          rest_of (comma f) o = absurd (false_true refl f)
          rest_of (close f) o = o

          closes : (l : Derivation list) (u o : List ℕ) (a : After list (suc d)) → word l ++ following a ≡ u ++ o → word l ++ 41 ∷ [] ≡ u ++ rest_of a o
          closes l u o unknown e = ap (λ (i : List ℕ). i ++ 41 ∷ []) (sym (append-nil (word l)) ∙ e) ∙ append_assoc u o (41 ∷ [])
          closes l u o (comma f) e = absurd (false_true refl f)
          closes l u o (close f) e = e

      module _ (es : List Element) (e k : ℕ) (w : Read list (suc d) (suc n) (suc p) x es e k) where
        pub bracket_unclosed : ends_at (suc d) w.rest ≡ false → Halted body d n p (40 ∷ x) 6 e
        unfolding word over
        bracket_unclosed f =
            record {
              tree = bracket w.tree;
              after = unknown;
              seen = 40 ∷ word w.tree;
              rest = w.rest;
              other = 41 ∷ [];
              here = ap (λ (l : List ℕ). 40 ∷ l) w.parts;
              there = append-nil (word (bracket w.tree));
              why = inl (refl, omega (arith, w.end));
              verdict = scan_open d n p x h g ∙ w.onward ∙ here_stops (at done (suc d) k) e 6 w.rest (done_fault (suc d) k w.rest f) (omega arith);
            }

        pub bracket_read : (y : List ℕ) → w.rest ≡ 41 ∷ y → Read body d n p (40 ∷ x) (made p (suc e) kinds.List d 0 0 ∷ es) (suc e) k
        unfolding word elements over
        bracket_read y f =
            let z : suc e ≡ p + length (word (bracket w.tree)) = omega (arith, w.end, length-append (word w.tree) (41 ∷ [])) in
            record {
              tree = bracket w.tree;
              rest = y;
              parts = ap (λ (l : List ℕ). 40 ∷ l) (w.parts ∙ ap (λ (l : List ℕ). word w.tree ++ l) f ∙ sym (append_assoc (word w.tree) (41 ∷ []) y));
              gives = ap (λ (i : ℕ). made p i kinds.List d 0 0 ∷ elements w.tree (suc d) (suc p)) (sym z) ∙ ap (λ (l : List Element). made p (suc e) kinds.List d 0 0 ∷ l) w.gives;
              end = z;
              count = omega (arith, w.count);
              few = w.few;
              within = rw (shallow_unlisted p d h, few_unlisted p n g) w.within;
              onward = scan_open d n p x h g ∙ w.onward ∙ ap (scan (at done (suc d) k) e) f ∙ scan_close d k e y;
              ended = λ e. absurd (false_true e refl);
            }

-- a list begins with an element
module _ (d n p : ℕ) (x : List ℕ) where
  pub first_refused : (k q : ℕ) → Halted element d n p x k q → Halted list d n p x k q
  unfolding word over
  first_refused k q w = go w.after w.there
    where
      limits : (l : Derivation list) → (Limited element d n p w.tree w.seen w.rest w.other k q → Limited list d n p l w.seen w.rest w.other k q) → ((k ≡ 6) × (q ≡ p + length w.seen)) ⊎ Limited list d n p l w.seen w.rest w.other k q
      limits l f = ⊎_elim inl (λ h. inr (f h)) w.why

      alone : Limited element d n p w.tree w.seen w.rest w.other k q → Limited list d n p (one w.tree) w.seen w.rest w.other k q
      alone h = record { shown = h.shown; among = h.among; enough = h.enough }

      not_alone : Limited element d n p w.tree w.seen w.rest w.other k q → Limited list d n p (more w.tree (one (spaced 0 empty))) w.seen w.rest w.other k q
      not_alone h = record { shown = h.shown; among = Memᴰ.append_left (over (one (spaced 0 empty)) d (suc (p + length (word w.tree))) (n + length (elements w.tree d p))) h.among; enough = h.enough }

      go : (a : After element d) → word w.tree ++ following a ≡ w.seen ++ w.other → Halted list d n p x k q
      go unknown e = record { tree = one w.tree; after = unknown; seen = w.seen; rest = w.rest; other = w.other; here = w.here; there = e; why = limits (one w.tree) alone; verdict = w.verdict }
      go (close f) e = record { tree = one w.tree; after = close f; seen = w.seen; rest = w.rest; other = w.other; here = w.here; there = e; why = limits (one w.tree) alone; verdict = w.verdict }
      go (comma f) e = record { tree = more w.tree (one (spaced 0 empty)); after = unknown; seen = w.seen; rest = w.rest; other = w.other; here = w.here; there = append-nil (word w.tree ++ 44 ∷ []) ∙ e; why = limits (more w.tree (one (spaced 0 empty))) not_alone; verdict = w.verdict }

  module _ (es : List Element) (e m : ℕ) (w : Read element d n p x es e m) where
    pub list_ends : eqb (get_or w.rest 0 0) 44 ≡ false → Read list d n p x es e m
    unfolding word elements over
    list_ends f = record { tree = one w.tree; rest = w.rest; parts = w.parts; gives = w.gives; end = w.end; count = w.count; few = w.few; within = w.within; onward = w.onward; ended = λ q. f }

    module _ (y : List ℕ) (f : w.rest ≡ 44 ∷ y) where
      counted : m ≡ n + length (elements w.tree d p)
      counted = w.count ∙ ap (λ (l : List Element). n + length l) (sym w.gives)

      past_comma : scan (at start d n) p x ≡ scan (at start d (n + length (elements w.tree d p))) (suc (p + length (word w.tree))) y
      past_comma =
          w.onward
          ∙ ap (scan (at done d m) e) f
          ∙ scan_comma d m e y
          ∙ ap (λ (i : ℕ). scan (at start d i) (suc e) y) counted
          ∙ ap (λ (i : ℕ). scan (at start d (n + length (elements w.tree d p))) (suc i) y) w.end

      pub list_reads : (fs : List Element) (z k : ℕ) → Read list d m (suc e) y fs z k → Read list d n p x (es ++ fs) z k
      unfolding word elements over
      list_reads fs z k u =
          let v = read_at counted (ap suc w.end) refl u in
          record {
            tree = more w.tree v.tree;
            rest = v.rest;
            parts = w.parts ∙ ap (λ (l : List ℕ). word w.tree ++ l) (f ∙ ap (λ (l : List ℕ). 44 ∷ l) v.parts) ∙ sym (append_assoc (word w.tree) (44 ∷ word v.tree) v.rest);
            gives = ap (λ (l : List Element). l ++ elements v.tree d (suc (p + length (word w.tree)))) w.gives ∙ ap (λ (l : List Element). es ++ l) v.gives;
            end = omega (arith, v.end, length-append (word w.tree) (44 ∷ word v.tree));
            count = omega (arith, u.count, w.count, length-append es fs);
            few = u.few;
            within = rw w.within v.within;
            onward = past_comma ∙ v.onward;
            ended = v.ended;
          }

      pub list_refused : (k q : ℕ) → Halted list d m (suc e) y k q → Halted list d n p x k q
      unfolding word over
      list_refused k q u =
          let v = refused_at_lem counted (ap suc w.end) refl u in
          let l : length (word w.tree ++ 44 ∷ v.seen) ≡ length (word w.tree) + suc (length v.seen) = length-append (word w.tree) (44 ∷ v.seen) in
          record {
            tree = more w.tree v.tree;
            after = v.after;
            seen = word w.tree ++ 44 ∷ v.seen;
            rest = v.rest;
            other = v.other;
            here = w.parts ∙ ap (λ (l : List ℕ). word w.tree ++ l) (f ∙ ap (λ (l : List ℕ). 44 ∷ l) v.here) ∙ sym (append_assoc (word w.tree) (44 ∷ v.seen) v.rest);
            there =
                append_assoc (word w.tree) (44 ∷ word v.tree) (following v.after)
                ∙ ap (λ (l : List ℕ). word w.tree ++ 44 ∷ l) v.there
                ∙ sym (append_assoc (word w.tree) (44 ∷ v.seen) v.other);
            why =
                ⊎_elim
                (λ h. inl (h.0, omega (arith, h.1, l)))
                (λ h. inr (record { shown = h.shown; among = Memᴰ.append_right (over w.tree d p n) h.among; enough = ⊎_elim (λ g. inl (omega (arith, g, l))) inr h.enough }))
                v.why;
            verdict = past_comma ∙ v.verdict;
          }
