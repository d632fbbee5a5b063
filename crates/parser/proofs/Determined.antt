-- Any two results that a contract of this crate allows are equal.
use Rattle.std.proofs.Common.{ℕ, Fits, w32}
use Rattle.outcome.specs.One.{One}
use Rattle.text.specs.Logic.{determined}
use Rattle.parser.proofs as calls

pub line_ending_one : One calls.line_ending.Reads.Post
line_ending_one κs a x y s t = determined

pub is_digit_one : One calls.is_digit.Reads.Post
is_digit_one κs a x y s t = determined

pub digits_at_one : (most : ℕ) (fits : Fits w32 most) → let post = calls.digits_at.Reads.Post most fits in One post
digits_at_one most fits κs a x y s t = determined

pub tail_at_one : One calls.tail_at.Reads.Post
tail_at_one κs a x y s t = determined

pub find_byte_one : One calls.find_byte.Reads.Post
find_byte_one κs a x y s t = determined

pub custom_prompt_one : One calls.custom_prompt.Reads.Post
custom_prompt_one κs a x y s t = determined

pub find_custom_one : One calls.find_custom.Reads.Post
find_custom_one κs a x y s t = determined

pub notice_text_one : One calls.notice_text.Reads.Post
notice_text_one κs a x y s t = determined
