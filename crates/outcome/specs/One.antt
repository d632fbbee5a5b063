-- What it is that a contract leaves one result only. It is said of the contract itself, so that one that is loosened breaks its law: `Post`, in the `Reads` that
-- is generated of a call, takes the call's lifetimes, its arguments, a result, and the arguments as they are left, with the bytes of lent memory.
use Rattle.std.specs.Prelude.{◌≡◌}

module _ {K : Type 0} {A R S : K → Type 0} (Post : (κs : K) → A κs → R κs → S κs → Type 0) where
  -- any two results that it allows of the same arguments, with what each leaves, are alike
  abbrev pub Alike : ((κs : K) (x y : R κs) (s t : S κs) → Type 0) → Type 0
  Alike Same = (κs : K) (a : A κs) (x y : R κs) (s t : S κs) → Post κs a x s → Post κs a y t → Same κs x y s t

  -- any two results that it allows are equal
  abbrev pub One : Type 0
  One = Alike (λ κs x y s t. x ≡ y)
