-- Any two results that a contract of this crate allows are equal, every byte of the lent memories too: each can be read off what `result_of` and `taking` make of it.
use mathlib.Core.Path.{◌≡◌, refl, sym, ap, ◌∙◌}
use Prim.Native.Nat.{ℕ}
use lib.ListN.{get_or}
use lib.Dec.{eqb}
use Rattle.std.specs.Prelude.{Result, Ok, Err, if◌then◌else◌}
use Rattle.outcome.specs.Outcome.{Outcome, answered, refused}
use Rattle.outcome.specs.One.{Alike, One}
use Rattle.text.specs.Logic.{determined}
use Rattle.turn.specs.declared.State.{State}
use Rattle.ingress.specs.declared.CheckError.{CheckError}
use Rattle.ingress.specs.declared.CheckError.TheVariants as judges
use Rattle.ingress.specs.declared.RunError.{RunError}
use Rattle.ingress.specs.Ingress.{After, run_says, refusal}
use Rattle.ingress.specs.One.{advanced_of, advanced_back, written_of, written_back, SameMemories, same_memories}
use Rattle.ingress.proofs as calls

abbrev checks_of : Outcome (Unit {0}) → Result (Unit {0}) CheckError
checks_of (answered x) = (Ok tt)
checks_of (refused k v) =
    if eqb k 1 then (Err judges.TooLong)
    else if eqb k 2 then Err (judges.BadTable (get_or v 0 0))
    else (Err judges.BadState)

checks_back : (r : Result (Unit {0}) CheckError) → checks_of (refusal r) ≡ r
checks_back (Ok tt) = refl
checks_back (Err judges.TooLong) = refl
checks_back (Err (judges.BadTable k)) = refl
checks_back (Err judges.BadState) = refl

pub judge_one : One calls.judge.Reads.Post
judge_one κs a x y s t h g = sym (checks_back x) ∙ ap checks_of (determined h g) ∙ checks_back y

abbrev ran_of : Outcome (Unit {0}) → State → Result State RunError
ran_of (answered x) s = Ok s
ran_of (refused k v) s = Err (record { left = s })

ran_back : (r : Result State RunError) → ran_of (run_says r).0 (run_says r).1 ≡ r
ran_back (Ok s) = refl
ran_back (Err e) = refl

-- behind selector, table and state: the buffer, the slot's memory, the queue's memory
pub run_one : Alike calls.run.Reads.Post (λ κs x y s t. (x ≡ y) × SameMemories s.1.1.1.0.now t.1.1.1.0.now)
run_one κs a x y s t h g =
    let e = determined h.0 g.0 in
    (sym (ran_back x) ∙ ap (λ (z : After (Unit {0})). ran_of z.said z.left.state) e ∙ ran_back y, same_memories _ _ e)

-- behind state, commit or piece, selector and table: the same
pub advance_one : Alike calls.advance.Reads.Post (λ κs x y s t. (x ≡ y) × SameMemories s.1.1.1.1.0.now t.1.1.1.1.0.now)
advance_one κs a x y s t h g =
    let e = determined h.0 g.0 in
    (sym (advanced_back a.0 x) ∙ ap (λ (z : After (Unit {0})). advanced_of z.said z.left.state) e ∙ advanced_back a.0 y, same_memories _ _ e)

pub write_one : Alike calls.write.Reads.Post (λ κs x y s t. (x ≡ y) × SameMemories s.1.1.1.1.0.now t.1.1.1.1.0.now)
write_one κs a x y s t h g =
    let e = determined h.0 g.0 in
    (sym (written_back a.0 x) ∙ ap (λ (z : After ℕ). written_of z.said z.left.state) e ∙ written_back a.0 y, same_memories _ _ e)

pub clear_one : One calls.clear.Reads.Post
clear_one κs a x y s t = determined
