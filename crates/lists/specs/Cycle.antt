-- The ways out of the readers that call each other, and of those around them: what was told of a part, told of the whole.
use Rattle.std.specs.Prelude.{Result, Ok, Err, ◌≡◌, Bool, true, false, ◌||◌, List, [], ◌∷◌, ◌++◌, ℕ, zero, suc, ◌+◌, ◌≤◌, ◌<◌, length, get_or, drop, replicate, eqb, if◌then◌else◌}
use Rattle.std.proofs.Math.Path.{refl}
use Rattle.std.proofs.Common.{sym, ap, ◌∙◌, subst, arith, length-append, length-drop, drop-drop, drop_at, eqb-true, ne_eqb}
use Rattle.text.specs.Logic.{false_true}
use Rattle.text.specs.Text.{among, blanks, is_blank, lead, past}
use Rattle.text.specs.Laws.{past_bounds}
use Rattle.text.specs.declared.Blanks.TheVariants.{Space}
use Rattle.pieces.specs.declared.Kind.TheVariants as kinds
use Rattle.pieces.specs.declared.Element.{Element}
use Rattle.lists.specs.declared.ListError.{ListError}
use Rattle.lists.specs.declared.ListError.TheVariants.{Malformed, TooDeep, TooMany}
use Rattle.lists.specs.Grammar.{Symbol, body, element, list, word, made, number_of, place_of}
use Rattle.lists.specs.Reader.{Read, Halted, Bodied, ends_at}
use Rattle.lists.specs.Bodies.{lead_over}
use Rattle.lists.specs.Join.{spaced_read, spaced_refused, bracket_deep, bracket_late, bracket_refused, bracket_unclosed, bracket_read, first_refused, list_ends, list_reads, list_refused}
use Rattle.lists.specs.Told.{Nexts, Told}
use Rattle.lists.specs.Calls.{first_byte, opens_with}

-- what is left where a reader stands
module _ {c : Symbol} {d n at e k : ℕ} {es : List Element} (s : List ℕ) (r : Read c d n at (drop at s) es e k) where
  rest_there : r.rest ≡ drop e s
  rest_there =
      sym (drop_at (word r.tree) r.rest (length (word r.tree)) refl)
      ∙ ap (drop (length (word r.tree))) (sym r.parts)
      ∙ drop-drop (length (word r.tree)) at s
      ∙ ap (λ (i : ℕ). drop i s) (sym r.end)

  pub came_to : at ≤ length s → (at ≤ e) × (e ≤ length s)
  came_to h = (omega (arith, r.end), omega (arith, r.end, sym (length-drop at s) ∙ ap length r.parts ∙ length-append (word r.tree) r.rest))

is_space : (b : ℕ) → is_blank Space b ≡ true → b ≡ 32
unfolding is_blank among blanks
is_space b e = eqb-true b 32 (no_or (eqb b 32) e)
  where
    no_or : (c : Bool) → c || false ≡ true → c ≡ true
    no_or true f = refl
    no_or false f = f

zero_space : is_blank Space 0 ≡ false
unfolding is_blank among blanks
zero_space = refl

spaces_in : (x : List ℕ) → x ≡ replicate (lead (is_blank Space) x) 32 ++ drop (lead (is_blank Space) x) x
unfolding lead
spaces_in [] = refl
spaces_in (b ∷ x) = go (is_blank Space b) refl (spaces_in x)
  where
    go : (c : Bool) → is_blank Space b ≡ c → x ≡ replicate (lead (is_blank Space) x) 32 ++ drop (lead (is_blank Space) x) x → b ∷ x ≡ replicate (if c then suc (lead (is_blank Space) x) else zero) 32 ++ drop (if c then suc (lead (is_blank Space) x) else zero) (b ∷ x)
    go true e h = ap (λ (a : ℕ). a ∷ x) (is_space b e) ∙ ap (λ (l : List ℕ). 32 ∷ l) h
    go false e h = refl

-- a list that no comma follows, within brackets and without the closing one
not_ended : (d : ℕ) (x : List ℕ) → eqb (get_or x 0 0) 44 ≡ false → eqb (get_or x 0 0) 41 ≡ false → ends_at (suc d) x ≡ false
unfolding ends_at
not_ended d [] e f = refl
not_ended d (b ∷ x) e f = rw (e, f)

-- an element's spaces, from `at` to `place`
module _ (s : List ℕ) (at place : ℕ) (q : place ≡ past (is_blank Space) s at) where
  place_is : place ≡ at + lead (is_blank Space) (drop at s)
  unfolding past
  place_is = q

  before_place : drop at s ≡ replicate (lead (is_blank Space) (drop at s)) 32 ++ drop place s
  before_place = spaces_in (drop at s) ∙ ap (λ (l : List ℕ). replicate (lead (is_blank Space) (drop at s)) 32 ++ l) (drop-drop (lead (is_blank Space) (drop at s)) at s ∙ ap (λ (i : ℕ). drop i s) (sym place_is))

  pub place_within : at ≤ length s → (at ≤ place) × (place ≤ length s)
  place_within h = let b = past_bounds (is_blank Space) s at in (omega (arith, q, b.0), omega (arith, q, b.1 h))

  pub no_space : get_or s place 0 ≡ 32 → ⊥
  no_space e =
      let b : is_blank Space (get_or (drop (lead (is_blank Space) (drop at s)) (drop at s)) 0 0) ≡ false = lead_over (is_blank Space) zero_space (drop at s) in
      false_true space (sym (ap (is_blank Space) byte) ∙ b)
    where
      byte : get_or (drop (lead (is_blank Space) (drop at s)) (drop at s)) 0 0 ≡ 32
      byte = ap (λ (l : List ℕ). get_or l 0 0) (drop-drop (lead (is_blank Space) (drop at s)) at s ∙ ap (λ (i : ℕ). drop i s) (sym place_is)) ∙ first_byte s place ∙ e

      space : is_blank Space 32 ≡ true
      space = unfold is_blank in unfold among in unfold blanks in refl

  module _ (d n : ℕ) where
    as_element : (es : List Element) (e k : ℕ) → Read body d n place (drop place s) es e k → Read element d n at (drop at s) es e k
    as_element es e k r =
        spaced_read d n at (lead (is_blank Space) (drop at s)) (drop at s) (drop place s) before_place es e k
        (subst (λ (i : ℕ). Read body d n i (drop place s) es e k) place_is r)

    as_refused : (k p : ℕ) → Halted body d n place (drop place s) k p → Halted element d n at (drop at s) k p
    as_refused k p r =
        spaced_refused d n at (lead (is_blank Space) (drop at s)) (drop at s) (drop place s) before_place k p
        (subst (λ (i : ℕ). Halted body d n i (drop place s) k p) place_is r)

    module _ {M : Type 0} (put : M → ℕ → List Element → M) (m : M) where
      pub plain_element : (r : Result (ℕ × ℕ) ListError) (after : M) → Told put body d n place (drop place s) m r after → Told put element d n at (drop at s) m r after
      plain_element (Ok (e, k)) after t = record { found = t.found; read = as_element t.found e k t.read; left = t.left }
      plain_element (Err why) after t = as_refused (number_of why) (place_of why) t

      module _ (o : get_or s place 0 ≡ 40) where
        opened : drop place s ≡ 40 ∷ drop (suc place) s
        opened = let c : place + 1 ≡ suc place = omega arith in opens_with s place 39 o ∙ ap (λ (i : ℕ). 40 ∷ drop i s) c

        halted_in : (k p : ℕ) → Halted body d n place (40 ∷ drop (suc place) s) k p → Halted element d n at (drop at s) k p
        halted_in k p r = as_refused k p (subst (λ (x : List ℕ). Halted body d n place x k p) (sym opened) r)

        pub too_deep_lem : 4 ≤ d → Told put element d n at (drop at s) m (Err (TooDeep place)) m
        too_deep_lem h = halted_in 7 place (bracket_deep d n place (drop (suc place) s) h)

        module _ (h : d < 4) where
          pub too_late : 256 ≤ n → Told put element d n at (drop at s) m (Err (TooMany place)) m
          too_late g = halted_in 9 place (bracket_late d n place (drop (suc place) s) h g)

          module _ (g : n < 256) (r : Result (ℕ × ℕ) ListError) (after : M) (t : Told put list (d + 1) (n + 1) (place + 1) (drop (place + 1) s) m r after) where
            inner : Told put list (suc d) (suc n) (suc place) (drop (suc place) s) m r after
            inner =
                let a : d + 1 ≡ suc d = omega arith in
                let b : n + 1 ≡ suc n = omega arith in
                let c : place + 1 ≡ suc place = omega arith in
                subst (λ (i : ℕ). Told put list (suc d) (suc n) i (drop i s) m r after) c
                (subst (λ (i : ℕ). Told put list (suc d) i (place + 1) (drop (place + 1) s) m r after) b
                (subst (λ (i : ℕ). Told put list i (n + 1) (place + 1) (drop (place + 1) s) m r after) a t))

            -- the list within the brackets was refused
            pub inner_refused : (why : ListError) → r ≡ Err why → Told put element d n at (drop at s) m (Err why) after
            inner_refused why e =
                let u : Told put list (suc d) (suc n) (suc place) (drop (suc place) s) m (Err why) after = subst (λ (q : Result (ℕ × ℕ) ListError). Told put list (suc d) (suc n) (suc place) (drop (suc place) s) m q after) e inner in
                halted_in (number_of why) (place_of why) (bracket_refused d n place (drop (suc place) s) h g (number_of why) (place_of why) u)

            -- it was read as far as e
            module _ (e k : ℕ) (f : r ≡ Ok (e, k)) where
              members : Nexts put list (suc d) (suc n) (suc place) (drop (suc place) s) m after e k
              members = subst (λ (q : Result (ℕ × ℕ) ListError). Told put list (suc d) (suc n) (suc place) (drop (suc place) s) m q after) f inner

              left_there : members.read.rest ≡ drop e s
              left_there = rest_there s members.read

              pub inner_unclosed : (get_or s e 0 ≡ 41 → ⊥) → Told put element d n at (drop at s) m (Err (Malformed e)) after
              inner_unclosed l =
                  halted_in 6 e (bracket_unclosed d n place (drop (suc place) s) h g members.found e k members.read (not_ended d members.read.rest (members.read.ended refl) (ap (λ (y : List ℕ). eqb (get_or y 0 0) 41) left_there ∙ ap (λ (b : ℕ). eqb b 41) (first_byte s e) ∙ ne_eqb (get_or s e 0) 41 l)))

              pub inner_closed : ((e : Element) (es : List Element) → put (put m (suc n) es) n (e ∷ []) ≡ put m n (e ∷ es)) → get_or s e 0 ≡ 41 → (o : Element) → o ≡ made place (e + 1) kinds.List d 0 0 → (last : M) → last ≡ put after n (o ∷ []) → Told put element d n at (drop at s) m (Ok ((e + 1), k)) last
              inner_closed before l o i last q =
                  let c : e + 1 ≡ suc e = omega arith in
                  subst (λ (i : ℕ). Told put element d n at (drop at s) m (Ok (i, k)) last) (sym c)
                  (record {
                    found = made place (suc e) kinds.List d 0 0 ∷ members.found;
                    read =
                        as_element (made place (suc e) kinds.List d 0 0 ∷ members.found) (suc e) k
                        (subst (λ (x : List ℕ). Read body d n place x (made place (suc e) kinds.List d 0 0 ∷ members.found) (suc e) k) (sym opened)
                        (bracket_read d n place (drop (suc place) s) h g members.found e k members.read (drop (e + 1) s) (left_there ∙ opens_with s e 40 l)));
                    left = q ∙ ap (λ (y : Element). put after n (y ∷ [])) (i ∙ ap (λ (j : ℕ). made place j kinds.List d 0 0) c) ∙ ap (λ (l : M). put l n (made place (suc e) kinds.List d 0 0 ∷ [])) members.left ∙ before (made place (suc e) kinds.List d 0 0) members.found;
                  })

-- a list from `at` on
module _ {M : Type 0} (put : M → ℕ → List Element → M) (s : List ℕ) (at d n : ℕ) (m : M) (r : Result (ℕ × ℕ) ListError) (after : M) (t : Told put element d n at (drop at s) m r after) where
  pub head_refused : (why : ListError) → r ≡ Err why → Told put list d n at (drop at s) m (Err why) after
  head_refused why e =
      let u : Told put element d n at (drop at s) m (Err why) after = subst (λ (q : Result (ℕ × ℕ) ListError). Told put element d n at (drop at s) m q after) e t in
      first_refused d n at (drop at s) (number_of why) (place_of why) u

  module _ (e k : ℕ) (f : r ≡ Ok (e, k)) where
    pub first : Nexts put element d n at (drop at s) m after e k
    first = subst (λ (q : Result (ℕ × ℕ) ListError). Told put element d n at (drop at s) m q after) f t

    pub list_over : (get_or s e 0 ≡ 44 → ⊥) → Told put list d n at (drop at s) m (Ok (e, k)) after
    list_over l =
        record {
          found = first.found;
          read =
              list_ends d n at (drop at s) first.found e k first.read
              (ap (λ (y : List ℕ). eqb (get_or y 0 0) 44) (rest_there s first.read) ∙ ap (λ (b : ℕ). eqb b 44) (first_byte s e) ∙ ne_eqb (get_or s e 0) 44 l);
          left = first.left;
        }

    pub list_on : ((es fs : List Element) → put (put m n es) (n + length es) fs ≡ put m n (es ++ fs)) → get_or s e 0 ≡ 44 → (q : Result (ℕ × ℕ) ListError) (last : M) → Told put list d k (e + 1) (drop (e + 1) s) after q last → Told put list d n at (drop at s) m q last
    list_on more l (Ok (z, j)) last u =
        let c : e + 1 ≡ suc e = omega arith in
        let v : Nexts put list d k (suc e) (drop (e + 1) s) after last z j = subst (λ (i : ℕ). Nexts put list d k i (drop (e + 1) s) after last z j) c u in
        record {
          found = first.found ++ v.found;
          read = list_reads d n at (drop at s) first.found e k first.read (drop (e + 1) s) (rest_there s first.read ∙ opens_with s e 43 l) v.found z j v.read;
          left = v.left ∙ ap (λ (l : M). put l k v.found) first.left ∙ ap (λ (i : ℕ). put (put m n first.found) i v.found) first.read.count ∙ more first.found v.found;
        }
    list_on more l (Err why) last u =
        let c : e + 1 ≡ suc e = omega arith in
        list_refused d n at (drop at s) first.found e k first.read (drop (e + 1) s) (rest_there s first.read ∙ opens_with s e 43 l) (number_of why) (place_of why) (subst (λ (i : ℕ). Halted list d k i (drop (e + 1) s) (number_of why) (place_of why)) c u)

-- a body that holds no list, left in the memory
module _ {M : Type 0} (put : M → ℕ → List Element → M) (s : List ℕ) (at d n : ℕ) (m : M) (r : Result Element ListError) (t : Bodied d n at (drop at s) r) where
  pub plain_read : (e : Element) → r ≡ Ok e → (after : M) → after ≡ put m n (e ∷ []) → Told put body d n at (drop at s) m (Ok (e.end, n + 1)) after
  plain_read e f after l =
      let c : suc n ≡ n + 1 = omega arith in
      record {
        found = e ∷ [];
        read = subst (λ (i : ℕ). Read body d n at (drop at s) (e ∷ []) e.end i) c (subst (Bodied d n at (drop at s)) f t);
        left = l;
      }

  pub plain_refused : (why : ListError) → r ≡ Err why → Told put body d n at (drop at s) m (Err why) m
  plain_refused why f = subst (Bodied d n at (drop at s)) f t
