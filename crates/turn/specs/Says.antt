-- All that the ingress relies on of a digester, as laws of `says`: what a `Choice` has. No other file opens `says`.
use Rattle.std.specs.Prelude.{◌≡◌, refl, Bool, true, false, List, ℕ, ◌≤◌, ◌<◌, min, length, take}
use Rattle.std.proofs.Math.Path.{ap}
use Rattle.std.proofs.Common.{length-take}
use Rattle.text.specs.Logic.{false_true}
use Rattle.text.specs.Laws.{take_fitting}
use Rattle.outcome.specs.Outcome.{answered}
use Rattle.answers.specs.Answer.{is_found, is_notice}
use Rattle.answers.specs.declared.Answer.{Answer}
use Rattle.answers.specs.Laws.{none_only}
use Rattle.selector.specs.Selector.{Trusted, Choice}
use Rattle.turn.specs.declared.State.{State}
use Rattle.turn.specs.Turn.{World, world, held, says, Quiet}

-- the bytes held, as a beginning of the buffer
pub held_long : (w : World) → length (held w) ≡ min w.state.end (length w.buf)
held_long w = length-take w.state.end w.buf

module _ (s : State) (b m n : List ℕ) (e : ℕ) (h : e ≡ min s.end (length b)) where
  pub held_is : take e b ≡ held (world s b m n)
  held_is = take_fitting s.end e b h

  pub says_is : (c : Choice) → c.answers (take e b) ≡ says c (world s b m n)
  unfolding says
  says_is c = ap c.answers held_is

-- It is what the digester answers.
pub says_answers : (c : Choice) (w : World) → says c w ≡ c.answers (held w)
unfolding says
says_answers c w = refl

-- It is said of the bytes held alone.
pub says_same : (c : Choice) (w v : World) → held w ≡ held v → says c w ≡ says c v
unfolding says
says_same c w v e = ap c.answers e

-- Whatever it says, it consumes at most what is held.
pub says_within : (c : Choice) (w : World) → (says c w).consumed ≤ length (held w)
unfolding says
says_within c w = c.within (held w)

-- A notice's number fits a byte, so that a record's number is the notice's.
pub says_byte : (c : Choice) (w : World) → is_notice (says c w).kind ≡ true → (says c w).number < 256
unfolding says
says_byte c w = c.byte (held w)

-- Under a table that it takes and of at most 4,096 bytes: what it found, or that nothing is finished.
pub says_trusted : (c : Choice) (w : World) → length (held w) ≤ 4096 → (n : ℕ) → c.rules ≡ answered n → Trusted (says c w) (Quiet c w)
unfolding says
says_trusted c w h n e = c.trusted n e (held w) h

-- a notice is something found
pub notice_found : (a : Answer) → is_notice a.kind ≡ true → is_found a ≡ true
notice_found a e = go (is_found a) refl
  where
    go : (b : Bool) → is_found a ≡ b → b ≡ true
    go true q = refl
    go false q = absurd (false_true e (ap is_notice (none_only a.kind q)))
