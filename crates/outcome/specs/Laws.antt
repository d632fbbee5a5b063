-- The laws of the conditional that rewriting doesn't give.
use Rattle.std.specs.Prelude.{◌≡◌, refl, Bool, true, false, if◌then◌else◌}

-- What holds of each of two ways holds of what the test chooses. The ways are found from the goal; write the property and the test.
pub ways : {A : Type 0} {x y : A} (P : A → Type 0) (b : Bool) → (b ≡ true → P x) → (b ≡ false → P y) → P (if b then x else y)
ways P true f g = f refl
ways P false f g = g refl

-- a way that is the same where the test chooses it
pub same_way : {A : Type 0} {x y : A} (z : A) (b : Bool) → (b ≡ true → x ≡ y) → ◌≡◌ {A = A} (if b then x else z) (if b then y else z)
same_way z true h = h refl
same_way z false h = refl
