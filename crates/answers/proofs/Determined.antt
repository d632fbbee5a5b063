-- Any two results that a contract of this crate allows are equal.
use Rattle.std.specs.Prelude.{◌≡◌}
use Rattle.outcome.specs.One.{Alike, One}
use Rattle.text.specs.Logic.{determined}
use Rattle.answers.proofs as calls

pub kind_number_one : One calls.kind_number.Reads.Post
kind_number_one κs a x y s t = determined

pub name_one : Alike calls.name.Reads.Post (λ κs x y s t. x.now ≡ y.now)
name_one κs a x y s t = determined

pub has_number_one : One calls.has_number.Reads.Post
has_number_one κs a x y s t = determined

pub number_of_one : One calls.number_of.Reads.Post
number_of_one κs a x y s t = determined

pub is_found_one : One calls.is_found.Reads.Post
is_found_one κs a x y s t = determined

pub is_notice_one : One calls.is_notice.Reads.Post
is_notice_one κs a x y s t = determined

pub is_numeric_one : One calls.is_numeric.Reads.Post
is_numeric_one κs a x y s t = determined

pub bare_one : One calls.bare.Reads.Post
bare_one κs a x y s t = determined

pub nothing_one : One calls.nothing.Reads.Post
nothing_one κs a x y s t = determined

pub with_number_one : One calls.with_number.Reads.Post
with_number_one κs a x y s t = determined

pub with_digits_one : One calls.with_digits.Reads.Post
with_digits_one κs a x y s t = determined

pub with_payload_one : One calls.with_payload.Reads.Post
with_payload_one κs a x y s t = determined

pub with_text_one : One calls.with_text.Reads.Post
with_text_one κs a x y s t = determined

pub carried_one : One calls.carried.Reads.Post
carried_one κs a x y s t = determined

pub shifted_one : One calls.shifted.Reads.Post
shifted_one κs a x y s t = determined
