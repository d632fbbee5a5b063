-- How a string goes on, where hexadecimal digits may be owed: closed, with what stands between, or broken off where no string goes on.
use Rattle.std.specs.Prelude.{Result, Ok, Err, ◌≡◌, Bool, true, ◌&&◌, if◌then◌else◌}
use Rattle.std.proofs.Math.Path.{refl, ap}
use Rattle.std.proofs.Common.{sym, ◌∙◌, arith, eqb-true}
use Rattle.std.proofs.Math.Bool.{false}
use mathlib.Core.List.{List, [], ◌∷◌, ◌++◌}
use Prim.Native.Nat.{ℕ, zero, suc, ◌+◌}
use Rattle.std.proofs.Math.ListN.{length, replicate, length-replicate}
use Rattle.std.proofs.Math.Dec.{eqb}
use Rattle.text.specs.Logic.{and_both}
use Rattle.parser.specs.Parser.{is_digit}
use Rattle.pieces.specs.Pieces.{is_char, is_hex, heard, goes_on, string_end}
use Rattle.pieces.specs.declared.Heard.TheVariants.{Owes, Closes, Breaks}
use Rattle.pieces.specs.declared.StringError.{StringError}
use Rattle.pieces.specs.declared.StringError.TheVariants.{Broken}
use Rattle.lists.specs.Grammar.{Piece, char, escape, piece_word}
use Rattle.lists.specs.Scan.{at, done, text, in_string, step, is_dead, rests, final, fault_in, stop, scan}
use Rattle.lists.specs.Places.{here_stops}
use Rattle.lists.specs.Onward.{scan_char, scan_hex, scan_back, scan_unquote}

unfoldable pub hexes : List ℕ → Bool
hexes [] = true
hexes (b ∷ w) = is_hex b && hexes w

module _ (d n owed p : ℕ) (x : List ℕ) where
  -- the digits that are owed, what follows them, and the quote
  pub record Closed (e : ℕ) : Type 0 where
    pub owing : List ℕ
    pub pieces : List Piece
    pub rest : List ℕ
    pub many : length owing ≡ owed
    pub hex : hexes owing ≡ true
    pub parts : x ≡ owing ++ (piece_word pieces ++ 34 ∷ rest)
    pub end : e ≡ suc (p + length (owing ++ piece_word pieces))
    pub onward : scan (at (text owed) d n) p x ≡ scan (at done d n) e rest

  pub record Breaks-off (q : ℕ) : Type 0 where
    pub owing : List ℕ
    pub pieces : List Piece
    pub seen : List ℕ
    pub rest : List ℕ
    pub other : List ℕ
    pub many : length owing ≡ owed
    pub hex : hexes owing ≡ true
    pub here : x ≡ seen ++ rest
    pub there : owing ++ (piece_word pieces ++ 34 ∷ []) ≡ seen ++ other
    pub place : q ≡ p + length seen
    pub verdict : scan (at (text owed) d n) p x ≡ stop 6 q

  abbrev pub Strung : Result ℕ StringError → Type 0
  Strung (Ok e) = Closed e
  Strung (Err (Broken q)) = Breaks-off q

pub no_owing : (w : List ℕ) → length w ≡ 0 → w ≡ []
no_owing [] e = refl
no_owing (b ∷ w) e = absurd (omega arith)

record Two (w : List ℕ) : Type 0 where
  first : ℕ
  second : ℕ
  both : w ≡ first ∷ second ∷ []
  one : is_hex first ≡ true
  two : is_hex second ≡ true

two_owing : (w : List ℕ) → length w ≡ 2 → hexes w ≡ true → Two w
unfolding hexes
two_owing [] e h = absurd (omega arith)
two_owing (a ∷ []) e h = absurd (omega arith)
two_owing (a ∷ b ∷ []) e h = let k = and_both (is_hex a) (is_hex b && true) h in record { first = a; second = b; both = refl; one = k.0; two = (and_both (is_hex b) true k.1).0 }
two_owing (a ∷ b ∷ c ∷ w) e h = absurd (omega arith)

zeros : (k : ℕ) → hexes (replicate k 48) ≡ true
unfolding hexes is_hex is_digit
zeros zero = refl
zeros (suc k) = zeros k

module _ (d n p : ℕ) (x : List ℕ) where
  breaks_here : (owed : ℕ) → fault_in (at (text owed) d n) x ≡ 6 → Strung d n owed p x (Err (Broken p))
  unfolding piece_word
  breaks_here owed e =
      record {
        owing = replicate owed 48;
        pieces = [];
        seen = [];
        rest = x;
        other = replicate owed 48 ++ 34 ∷ [];
        many = length-replicate owed 48;
        hex = zeros owed;
        here = refl;
        there = refl;
        place = omega arith;
        verdict = here_stops (at (text owed) d n) p 6 x e (omega arith);
      }

module _ (d n p b : ℕ) (x : List ℕ) where
  on_hex : (k : ℕ) (r : Result ℕ StringError) → is_hex b ≡ true → Strung d n k (suc p) x r → Strung d n (suc k) p (b ∷ x) r
  unfolding hexes
  on_hex k (Ok e) h w =
      record {
        owing = b ∷ w.owing;
        pieces = w.pieces;
        rest = w.rest;
        many = ap suc w.many;
        hex = rw h w.hex;
        parts = ap (λ (l : List ℕ). b ∷ l) w.parts;
        end = omega (arith, w.end);
        onward = scan_hex d n p k b x h ∙ w.onward;
      }
  on_hex k (Err (Broken q)) h w =
      record {
        owing = b ∷ w.owing;
        pieces = w.pieces;
        seen = b ∷ w.seen;
        rest = w.rest;
        other = w.other;
        many = ap suc w.many;
        hex = rw h w.hex;
        here = ap (λ (l : List ℕ). b ∷ l) w.here;
        there = ap (λ (l : List ℕ). b ∷ l) w.there;
        place = omega (arith, w.place);
        verdict = scan_hex d n p k b x h ∙ w.verdict;
      }

  on_char : (r : Result ℕ StringError) → is_char b ≡ true → Strung d n 0 (suc p) x r → Strung d n 0 p (b ∷ x) r
  unfolding piece_word hexes
  on_char (Ok e) h w =
      let o = no_owing w.owing w.many in
      record {
        owing = [];
        pieces = char b h ∷ w.pieces;
        rest = w.rest;
        many = refl;
        hex = refl;
        parts = ap (λ (l : List ℕ). b ∷ l) (w.parts ∙ ap (λ (l : List ℕ). l ++ (piece_word w.pieces ++ 34 ∷ w.rest)) o);
        end = omega (arith, w.end, ap (λ (l : List ℕ). length (l ++ piece_word w.pieces)) o);
        onward = scan_char d n p b x h ∙ w.onward;
      }
  on_char (Err (Broken q)) h w =
      let o = no_owing w.owing w.many in
      record {
        owing = [];
        pieces = char b h ∷ w.pieces;
        seen = b ∷ w.seen;
        rest = w.rest;
        other = w.other;
        many = refl;
        hex = refl;
        here = ap (λ (l : List ℕ). b ∷ l) w.here;
        there = ap (λ (l : List ℕ). b ∷ l) (ap (λ (l : List ℕ). l ++ (piece_word w.pieces ++ 34 ∷ [])) (sym o) ∙ w.there);
        place = omega (arith, w.place);
        verdict = scan_char d n p b x h ∙ w.verdict;
      }

  on_back : (r : Result ℕ StringError) → b ≡ 92 → Strung d n 2 (suc p) x r → Strung d n 0 p (b ∷ x) r
  unfolding piece_word hexes
  on_back (Ok e) h w =
      let o = two_owing w.owing w.many w.hex in
      record {
        owing = [];
        pieces = escape o.first o.second o.one o.two ∷ w.pieces;
        rest = w.rest;
        many = refl;
        hex = refl;
        parts = ap (λ (a : ℕ). a ∷ x) h ∙ ap (λ (l : List ℕ). 92 ∷ l) (w.parts ∙ ap (λ (l : List ℕ). l ++ (piece_word w.pieces ++ 34 ∷ w.rest)) o.both);
        end = omega (arith, w.end, ap (λ (l : List ℕ). length (l ++ piece_word w.pieces)) o.both);
        onward = ap (λ (a : ℕ). scan (at (text 0) d n) p (a ∷ x)) h ∙ scan_back d n p x ∙ w.onward;
      }
  on_back (Err (Broken q)) h w =
      let o = two_owing w.owing w.many w.hex in
      record {
        owing = [];
        pieces = escape o.first o.second o.one o.two ∷ w.pieces;
        seen = 92 ∷ w.seen;
        rest = w.rest;
        other = w.other;
        many = refl;
        hex = refl;
        here = ap (λ (a : ℕ). a ∷ x) h ∙ ap (λ (l : List ℕ). 92 ∷ l) w.here;
        there = ap (λ (l : List ℕ). 92 ∷ l) (ap (λ (l : List ℕ). l ++ (piece_word w.pieces ++ 34 ∷ [])) (sym o.both) ∙ w.there);
        place = omega (arith, w.place);
        verdict = ap (λ (a : ℕ). scan (at (text 0) d n) p (a ∷ x)) h ∙ scan_back d n p x ∙ w.verdict;
      }

  on_quote : b ≡ 34 → Strung d n 0 p (b ∷ x) (Ok (suc p))
  unfolding piece_word hexes
  on_quote h =
      record {
        owing = [];
        pieces = [];
        rest = x;
        many = refl;
        hex = refl;
        parts = ap (λ (a : ℕ). a ∷ x) h;
        end = omega arith;
        onward = ap (λ (a : ℕ). scan (at (text 0) d n) p (a ∷ x)) h ∙ scan_unquote d n p x;
      }

  goes_on_lem : (owed : ℕ) → ((k : ℕ) → Strung d n k (suc p) x (string_end k (suc p) x)) → Strung d n owed p (b ∷ x) (goes_on (heard owed b) p (λ k. string_end k (suc p) x))
  unfolding heard goes_on
  goes_on_lem zero f = go (is_char b) refl (eqb b 92) refl (eqb b 34) refl
    where
      broken : is_char b ≡ false → eqb b 92 ≡ false → eqb b 34 ≡ false → fault_in (at (text 0) d n) (b ∷ x) ≡ 6
      broken e q r = unfold fault_in in unfold step in unfold in_string in unfold is_dead in rw (e, q, r)

      go : (c : Bool) → is_char b ≡ c → (k : Bool) → eqb b 92 ≡ k → (z : Bool) → eqb b 34 ≡ z → Strung d n 0 p (b ∷ x) (goes_on (if c then Owes 0 else if k then Owes 2 else if z then Closes else Breaks) p (λ k. string_end k (suc p) x))
      go true e k q z r = on_char (string_end 0 (suc p) x) e (f 0)
      go false e true q z r = on_back (string_end 2 (suc p) x) (eqb-true b 92 q) (f 2)
      go false e false q true r = on_quote (eqb-true b 34 r)
      go false e false q false r = breaks_here d n p (b ∷ x) 0 (broken e q r)
  goes_on_lem (suc k) f = go (is_hex b) refl
    where
      broken : is_hex b ≡ false → fault_in (at (text (suc k)) d n) (b ∷ x) ≡ 6
      broken e = unfold fault_in in unfold step in unfold in_string in unfold is_dead in rw e

      go : (c : Bool) → is_hex b ≡ c → Strung d n (suc k) p (b ∷ x) (goes_on (if c then Owes k else Breaks) p (λ i. string_end i (suc p) x))
      go true e = on_hex k (string_end k (suc p) x) e (f k)
      go false e = breaks_here d n p (b ∷ x) (suc k) (broken e)

pub strung : (d n : ℕ) (x : List ℕ) (owed p : ℕ) → Strung d n owed p x (string_end owed p x)
unfolding string_end fault_in final rests
strung d n [] owed p = breaks_here d n p [] owed refl
strung d n (b ∷ x) owed p = goes_on_lem d n p b x owed (λ k. strung d n x k (suc p))
