-- The fixed texts of document 01's rules 3 and 5, byte for byte, and which digester hears which.
use Rattle.std.specs.Prelude.{Option, Some, None, Bool, true, false, List, ℕ, leb, if◌then◌else◌}
use Rattle.text.specs.Bytes.{bytes}
use Rattle.lines.specs.declared.Fixed.{Fixed}
use Rattle.lines.specs.declared.Fixed.TheVariants.{Ok, Connect, Error, CommandNotSupport, NoCarrier, Busy, NoAnswer, NoDialtone, Na, Cme, Cms, Modem, ConnectText}
use Rattle.lines.specs.declared.Digester.{Digester}
use Rattle.lines.specs.declared.Digester.TheVariants as digester

abbrev pub crlf : List ℕ
crlf = bytes "\r\n"

-- R-3: does the digester that the caller chose hear a CONNECT line with text? Document 01's doesn't.
abbrev pub hears_text : Digester → Bool
hears_text digester.Verbose = false
hears_text digester.Connect = true

-- rules 3 and 5: the nine fixed lines, the heads of the three numeric errors, and that of a CONNECT line with text (R-3)
abbrev pub fixed_text : Fixed → List ℕ
fixed_text Ok = bytes "\r\nOK\r\n"
fixed_text Connect = bytes "\r\nCONNECT\r\n"
fixed_text Error = bytes "\r\nERROR\r\n"
fixed_text CommandNotSupport = bytes "\r\nCOMMAND NOT SUPPORT\r\n"
fixed_text NoCarrier = bytes "\r\nNO CARRIER\r\n"
fixed_text Busy = bytes "\r\nBUSY\r\n"
fixed_text NoAnswer = bytes "\r\nNO ANSWER\r\n"
fixed_text NoDialtone = bytes "\r\nNO DIALTONE\r\n"
fixed_text Na = bytes "\r\nNA\r\n"
fixed_text Cme = bytes "\r\n+CME ERROR:"
fixed_text Cms = bytes "\r\n+CMS ERROR:"
fixed_text Modem = bytes "\r\nMODEM ERROR:"
fixed_text ConnectText = bytes "\r\nCONNECT "

-- R-3: where the first places of the fixed texts are f, CONNECT's is the least of either line's.
unfoldable pub earlier : Option ℕ → Option ℕ → Option ℕ
earlier (Some j) (Some k) = if leb j k then Some j else Some k
earlier (Some j) None = Some j
earlier None r = r

unfoldable pub connect_place : Digester → (Fixed → Option ℕ) → Option ℕ
unfolding earlier
connect_place d f = if hears_text d then earlier (f Connect) (f ConnectText) else f Connect
