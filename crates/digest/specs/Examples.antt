-- The known examples of document 01 that it marks P, as one statement over a list, by computation.
-- An example gives the input, and the answer as 01 writes it: kind, number, payload, bytes consumed.
use Rattle.std.specs.Prelude.{List, [], ◌∷◌, ℕ}
use Prim.Native.String.{String}
use Rattle.text.specs.Bytes.{bytes}
use Rattle.text.specs.Text.{part_of}
use Rattle.outcome.specs.Outcome.{Outcome, answered, refused}
use Rattle.lines.specs.declared.Digester.TheVariants as digester
use Rattle.answers.specs.declared.Kind.{Kind}
use Rattle.answers.specs.declared.Kind.TheVariants.{None, Ok, Prompt, Cme, Cms, NotAllowed, Notice}
use Rattle.answers.specs.declared.Answer.{Answer}
use Rattle.answers.specs.Answer.{Number, none, number, number_of}
use Rattle.digest.specs.Digest.{digest}

pub record Known : Type 0 where
  pub table : List ℕ
  pub input : String
  pub kind : Kind
  pub number : Number
  pub payload : String
  pub consumed : ℕ

-- what 01 says of an answer: its kind, its number, its payload's bytes, the bytes consumed
pub record Said : Type 0 where
  pub kind : Kind
  pub number : Number
  pub payload : List ℕ
  pub consumed : ℕ

abbrev pub said : List ℕ → Answer → Said
said s a = record { kind = a.kind; number = number_of a; payload = part_of s a.payload.start a.payload.len; consumed = a.consumed }

abbrev pub said_of : List ℕ → Outcome Answer → Outcome Said
said_of s (answered a) = answered (said s a)
said_of s (refused n values) = refused n values

abbrev pub given : Known → Outcome Said
given x = said_of (bytes x.input) (digest digester.Verbose x.table (bytes x.input))

abbrev pub expected : Known → Outcome Said
expected x = answered (record { kind = x.kind; number = x.number; payload = bytes x.payload; consumed = x.consumed })

abbrev pub known : List ℕ → String → Kind → Number → String → ℕ → Known
known t s k n p c = record { table = t; input = s; kind = k; number = n; payload = p; consumed = c }

-- `UR` +UUSORD
abbrev pub uusord : List ℕ
uusord = bytes "UR\u{7}+UUSORD"

abbrev pub examples : List Known
examples =
    known [] "" None none "" 0
    ∷ known [] "   " None none "" 3
    ∷ known [] "\r\nOK\r\n" Ok none "" 6
    ∷ known [] "\r\nERROR\r\n\r\nOK\r\n" Ok none "ERROR" 15
    ∷ known [] "\r\n+CME ERROR: 65535\r\n" Cme (number 65535) "" 21
    ∷ known [] "\r\n+CME ERROR: 65536\r\n" None none "" 0
    ∷ known [] "\r\n+CMS ERROR:\t7\n" Cms (number 7) "" 16
    ∷ known [] ">\r\n" None none "" 1
    ∷ known [] "\r\na>b\r\n>" Prompt (number 62) "" 8
    ∷ known [] "x\r\n\r\nNA\r\n" NotAllowed none "" 9
    ∷ known [] "\r\nok\r\n" None none "" 0
    ∷ known uusord "\r\nRING\r\n\r\n+UUSORD: 0,4\r\n" Notice (number 0) "+UUSORD: 0,4" 24
    ∷ known uusord "\r\n+UUSO" None none "" 0
    ∷ []
