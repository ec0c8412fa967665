-- The listing of the program `sitting`, for any input bytes. Document 01, "Listing".
use Rattle.std.specs.Prelude.{Bool, true, false, cond, ◌&&◌, List, [], ◌∷◌, ◌++◌, map, ℕ, zero, suc, ◌+◌, ◌*◌, ◌/◌, ◌%◌, ◌^◌, ltb, leb}
use Rattle.std.proofs.Math.Option.{Option, none, some}
use Prim.Native.Char.{code}
use Prim.Native.String as Text
use Rattle.model.specs.Facts.{Presence, absent, present, unknown, silent, table_of, known_facts, table_bytes, table_fault}
use Rattle.model.specs.Outcome.{product_sets}
use Rattle.model.specs.Decision.{Shape, forbidden, hidden, Decision, permits, denies}
use Rattle.model.specs.Policy.{Policy}
use Rattle.model.specs.Evaluate.{eval_policy}
use Rattle.model.specs.Consulted.{Entry, Consulted, read}
use Rattle.model.specs.Reading.{Parsed, refuse, got, many, read_sheet}

-- ---- bytes

-- The bytes of an ASCII text.
abbrev pub text : Text.String → List ℕ
text Text.[] = []
text (Text.◌∷◌ c s) = code c ∷ text s

abbrev pub newline : List ℕ
newline = 10 ∷ []

-- The last n digits of a number in a base up to 16; hexadecimal digits in capitals.
abbrev pub digit : ℕ → ℕ
digit d = cond (ltb d 10) (48 + d) (55 + d)

abbrev pub digits : ℕ → ℕ → ℕ → List ℕ
digits base zero v = []
digits base (suc n) v = digits base n (v / base) ++ digit (v % base) ∷ []

-- A number below 10,000 in decimal, without leading zeros.
abbrev pub decimal : ℕ → List ℕ
decimal v = digits 10 (cond (ltb v 10) 1 (cond (ltb v 100) 2 (cond (ltb v 1000) 3 4))) v

-- Comma-separated, `-` if empty.
abbrev pub commas : List (List ℕ) → List ℕ
commas [] = []
commas (x ∷ xs) = text "," ++ (x ++ commas xs)

abbrev pub list_of : List (List ℕ) → List ℕ
list_of [] = text "-"
list_of (x ∷ xs) = x ++ commas xs

abbrev pub line : Text.String → List ℕ → List ℕ
line name value = text name ++ (text " " ++ (value ++ newline))

-- ---- the six lines
abbrev pub effect_text : {O : Type 0} → Decision O → List ℕ
effect_text (permits p) = text "effect permit" ++ newline
effect_text (denies d) = text "effect deny" ++ newline

-- Four hex digits, `----` on deny.
abbrev pub products_text : Decision ℕ → List ℕ
products_text (permits p) = digits 16 4 p.outcome
products_text (denies d) = text "----"

abbrev pub shape_name : Shape → List ℕ
shape_name forbidden = text "forbidden"
shape_name hidden = text "hidden"

abbrev pub shape_text : {O : Type 0} → Decision O → List ℕ
shape_text (permits p) = text "-"
shape_text (denies d) = shape_name d.shape

abbrev pub obligations_of : {O : Type 0} → Decision O → List ℕ
obligations_of (permits p) = p.obligations
obligations_of (denies d) = []

-- The facts of the decisive clause.
abbrev pub facts_of : {O : Type 0} → Decision O → List ℕ
facts_of (permits p) = p.facts
facts_of (denies d) = d.facts

-- A fact, `=`, `present`, `absent` or `silent`. (A known table gives no Unknown.)
abbrev pub presence_text : Presence → List ℕ
presence_text absent = text "absent"
presence_text present = text "present"
presence_text unknown = text "unknown"
presence_text silent = text "silent"

abbrev pub entry_text : Entry → List ℕ
entry_text e = decimal e.fact ++ (text "=" ++ presence_text e.seen)

abbrev pub listing : Decision ℕ → Consulted → List ℕ
listing d l =
    effect_text d
    ++ (line "products" (products_text d)
    ++ (line "shape" (shape_text d)
    ++ (line "obligations" (list_of (map decimal (obligations_of d)))
    ++ (line "facts" (list_of (map decimal (facts_of d)))
    ++ line "consulted" (list_of (map entry_text l))))))

abbrev pub refused_text : ℕ → List ℕ
refused_text n = line "refused" (decimal n)

-- ---- the input: a 16-bit word count, the words, a 16-bit table length and a known table, all most significant byte first

-- A number of n bytes, if they are all there, and the bytes after it.
abbrev pub number_from : ℕ → ℕ → List ℕ → Parsed ℕ
number_from sofar zero bs = got sofar bs
number_from sofar (suc n) [] = refuse 6
number_from sofar (suc n) (b ∷ bs) = number_from (sofar * 2 ^ 8 + b) n bs

abbrev pub words_from : ℕ → List ℕ → Parsed (List ℕ)
words_from n bs = many [] ◌∷◌ (number_from 0 4) n bs

abbrev pub bytes_from : ℕ → List ℕ → Parsed (List ℕ)
bytes_from n bs = many [] ◌∷◌ (number_from 0 1) n bs

abbrev pub decided : Parsed (Policy ℕ) → List ℕ → List ℕ
decided (refuse n) facts = refused_text n
decided (got t ws) facts = listing (eval_policy product_sets (table_of facts) t) (read product_sets (table_of facts) t [])

abbrev pub checked : Option ℕ → List ℕ → List ℕ → List ℕ
checked none sheet facts = decided (read_sheet product_sets.value sheet) facts
checked (some n) sheet facts = refused_text n

abbrev pub on_bytes : {A : Type 0} → Parsed A → (A → List ℕ → List ℕ) → List ℕ
on_bytes (refuse n) k = refused_text n
on_bytes (got a bs) k = k a bs

abbrev pub unless_refused : Bool → ℕ → List ℕ → List ℕ
unless_refused true n bs = bs
unless_refused false n bs = refused_text n

-- Input that ends early gives 6, after 1 and 2; later bytes are ignored.
abbrev pub sitting : List ℕ → List ℕ
sitting input =
    on_bytes (number_from 0 2 input) (λ count after.
    unless_refused (leb 1 count && leb count 4096) 1 (
    on_bytes (words_from count after) (λ sheet rest.
    on_bytes (number_from 0 2 rest) (λ size table.
    unless_refused (leb size table_bytes) 2 (
    on_bytes (bytes_from size table) (λ facts _.
    checked (table_fault known_facts facts) sheet facts))))))
