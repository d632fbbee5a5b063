-- Any two results that a contract of this crate allows are equal.
use Rattle.outcome.specs.One.{One}
use Rattle.text.specs.Logic.{determined}
use Rattle.lines.proofs as calls

pub hears_text_one : One calls.hears_text.Reads.Post
hears_text_one κs a x y s t = determined

pub fixed_at_one : One calls.fixed_at.Reads.Post
fixed_at_one κs a x y s t = determined

pub find_fixed_one : One calls.find_fixed.Reads.Post
find_fixed_one κs a x y s t = determined

pub find_crlf_one : One calls.find_crlf.Reads.Post
find_crlf_one κs a x y s t = determined

pub fixed_len_one : One calls.fixed_len.Reads.Post
fixed_len_one κs a x y s t = determined

pub search_crlf_one : One calls.search_crlf.Reads.Post
search_crlf_one κs a x y s t = determined
