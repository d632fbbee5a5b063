-- The known examples come out as document 01 has them, by computation.
use Rattle.std.specs.Prelude.{◌≡◌, refl, map}
use Rattle.text.specs.Text.{is_blank, past, keep, trimmed, trimmed_part, stands, find_in, part_of}
use Rattle.table.specs.Table.{ruling, tokens, of_mark}
use Rattle.parser.specs.Parser.{numeric_error, prompt_from, custom_prompt, notice_at}
use Rattle.digest.specs.Digest.{digest}
use Rattle.digest.specs.Examples.{given, expected, examples}

pub all_known : map given examples ≡ map expected examples
unfolding digest trimmed_part is_blank past keep trimmed stands find_in part_of ruling tokens of_mark numeric_error prompt_from custom_prompt notice_at
all_known = refl
