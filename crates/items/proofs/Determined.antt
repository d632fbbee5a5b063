-- Any two results that a contract of this crate allows are equal.
use Rattle.outcome.specs.One.{One}
use Rattle.text.specs.Logic.{determined}
use Rattle.items.proofs as calls

pub first_custom_one : One calls.first_custom.Reads.Post
first_custom_one κs a x y s t = determined

pub custom_prompts_one : One calls.custom_prompts.Reads.Post
custom_prompts_one κs a x y s t = determined

pub custom_error_one : One calls.custom_error.Reads.Post
custom_error_one κs a x y s t = determined

pub prompt_bytes_one : One calls.prompt_bytes.Reads.Post
prompt_bytes_one κs a x y s t = determined

pub numerics_one : One calls.numerics.Reads.Post
numerics_one κs a x y s t = determined

pub unknown_one : One calls.unknown.Reads.Post
unknown_one κs a x y s t = determined

pub firsts_one : One calls.firsts.Reads.Post
firsts_one κs a x y s t = determined
