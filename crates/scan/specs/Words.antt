-- The texts that the pass looks for, and the beginnings of them that its states stand for.
use Rattle.std.specs.Prelude.{Bool, true, false, ◌&&◌, ◌||◌, List, [], ◌∷◌, ℕ, eqb, get_or, if◌then◌else◌}
use Rattle.text.specs.Bytes.{bytes}
use Rattle.lines.specs.Lines.{fixed_text}
use Rattle.lines.specs.declared.Fixed.TheVariants.{Ok, Connect, Error, CommandNotSupport, NoCarrier, Busy, NoAnswer, NoDialtone, Cme, Cms, Modem}

-- the eight lines that may stand anywhere and the three heads, in the order of their numbers
unfoldable pub texts : List (List ℕ)
texts =
    fixed_text Ok ∷
    fixed_text Connect ∷
    fixed_text Error ∷
    fixed_text CommandNotSupport ∷
    fixed_text NoCarrier ∷
    fixed_text Busy ∷
    fixed_text NoAnswer ∷
    fixed_text NoDialtone ∷
    fixed_text Cme ∷
    fixed_text Cms ∷
    fixed_text Modem ∷
    []

abbrev pub text_of : ℕ → List ℕ
text_of k = get_or texts k []

-- is t still open after w: does it begin with w, and go on?
unfoldable pub opens : List ℕ → List ℕ → Bool
opens w [] = false
opens [] (y ∷ t) = true
opens (x ∷ w) (y ∷ t) = let r = opens w t in eqb x y && r

-- is one of the texts still open after w?
unfoldable pub is_open : List (List ℕ) → List ℕ → Bool
is_open [] w = false
is_open (t ∷ ts) w = let r = is_open ts w in opens w t || r

-- the longest end of w after which one of the texts is still open
unfoldable pub longest_of : List (List ℕ) → List ℕ → List ℕ
longest_of ts [] = []
longest_of ts (x ∷ w) = let r = longest_of ts w in if is_open ts (x ∷ w) then x ∷ w else r

abbrev pub longest : List ℕ → List ℕ
longest w = longest_of texts w

-- the beginning that each state stands for; the last eleven are the texts without their last bytes
unfoldable pub words : List (List ℕ)
words =
    -- the words
    bytes "" ∷
    bytes "\r" ∷
    bytes "\r\n" ∷
    bytes "\r\nO" ∷
    bytes "\r\nOK" ∷
    bytes "\r\nC" ∷
    bytes "\r\nCO" ∷
    bytes "\r\nCON" ∷
    bytes "\r\nCONN" ∷
    bytes "\r\nCONNE" ∷
    bytes "\r\nCONNEC" ∷
    bytes "\r\nCONNECT" ∷
    bytes "\r\nE" ∷
    bytes "\r\nER" ∷
    bytes "\r\nERR" ∷
    bytes "\r\nERRO" ∷
    bytes "\r\nERROR" ∷
    bytes "\r\nCOM" ∷
    bytes "\r\nCOMM" ∷
    bytes "\r\nCOMMA" ∷
    bytes "\r\nCOMMAN" ∷
    bytes "\r\nCOMMAND" ∷
    bytes "\r\nCOMMAND " ∷
    bytes "\r\nCOMMAND N" ∷
    bytes "\r\nCOMMAND NO" ∷
    bytes "\r\nCOMMAND NOT" ∷
    bytes "\r\nCOMMAND NOT " ∷
    bytes "\r\nCOMMAND NOT S" ∷
    bytes "\r\nCOMMAND NOT SU" ∷
    bytes "\r\nCOMMAND NOT SUP" ∷
    bytes "\r\nCOMMAND NOT SUPP" ∷
    bytes "\r\nCOMMAND NOT SUPPO" ∷
    bytes "\r\nCOMMAND NOT SUPPOR" ∷
    bytes "\r\nCOMMAND NOT SUPPORT" ∷
    bytes "\r\nN" ∷
    bytes "\r\nNO" ∷
    bytes "\r\nNO " ∷
    bytes "\r\nNO C" ∷
    bytes "\r\nNO CA" ∷
    bytes "\r\nNO CAR" ∷
    bytes "\r\nNO CARR" ∷
    bytes "\r\nNO CARRI" ∷
    bytes "\r\nNO CARRIE" ∷
    bytes "\r\nNO CARRIER" ∷
    bytes "\r\nB" ∷
    bytes "\r\nBU" ∷
    bytes "\r\nBUS" ∷
    bytes "\r\nBUSY" ∷
    bytes "\r\nNO A" ∷
    bytes "\r\nNO AN" ∷
    bytes "\r\nNO ANS" ∷
    bytes "\r\nNO ANSW" ∷
    bytes "\r\nNO ANSWE" ∷
    bytes "\r\nNO ANSWER" ∷
    bytes "\r\nNO D" ∷
    bytes "\r\nNO DI" ∷
    bytes "\r\nNO DIA" ∷
    bytes "\r\nNO DIAL" ∷
    bytes "\r\nNO DIALT" ∷
    bytes "\r\nNO DIALTO" ∷
    bytes "\r\nNO DIALTON" ∷
    bytes "\r\nNO DIALTONE" ∷
    bytes "\r\n+" ∷
    bytes "\r\n+C" ∷
    bytes "\r\n+CM" ∷
    bytes "\r\n+CME" ∷
    bytes "\r\n+CME " ∷
    bytes "\r\n+CME E" ∷
    bytes "\r\n+CME ER" ∷
    bytes "\r\n+CME ERR" ∷
    bytes "\r\n+CME ERRO" ∷
    bytes "\r\n+CMS" ∷
    bytes "\r\n+CMS " ∷
    bytes "\r\n+CMS E" ∷
    bytes "\r\n+CMS ER" ∷
    bytes "\r\n+CMS ERR" ∷
    bytes "\r\n+CMS ERRO" ∷
    bytes "\r\nM" ∷
    bytes "\r\nMO" ∷
    bytes "\r\nMOD" ∷
    bytes "\r\nMODE" ∷
    bytes "\r\nMODEM" ∷
    bytes "\r\nMODEM " ∷
    bytes "\r\nMODEM E" ∷
    bytes "\r\nMODEM ER" ∷
    bytes "\r\nMODEM ERR" ∷
    bytes "\r\nMODEM ERRO" ∷
    bytes "\r\nOK\r" ∷
    bytes "\r\nCONNECT\r" ∷
    bytes "\r\nERROR\r" ∷
    bytes "\r\nCOMMAND NOT SUPPORT\r" ∷
    bytes "\r\nNO CARRIER\r" ∷
    bytes "\r\nBUSY\r" ∷
    bytes "\r\nNO ANSWER\r" ∷
    bytes "\r\nNO DIALTONE\r" ∷
    bytes "\r\n+CME ERROR" ∷
    bytes "\r\n+CMS ERROR" ∷
    bytes "\r\nMODEM ERROR" ∷
    -- no more words
    []

abbrev pub word : ℕ → List ℕ
word q = get_or words q []
