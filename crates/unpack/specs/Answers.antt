-- What the checks of bits answer, from what is read of them: the words that it takes, and the bits after it. Request 11.
use Rattle.std.specs.Prelude.{◌≡◌, Bool, cond, ◌&&◌, List, ℕ, ◌+◌, ◌≤◌, ltb, leb, length, drop, Result, Ok, Err}
use Rattle.std.proofs.Math.Option.{Option, none, some}
use Rattle.model.specs.Outcome.{product_sets}
use Rattle.model.specs.Condition.{cnil, ccons}
use Rattle.model.specs.Policy.{pnil, pcons}
use Rattle.model.specs.Partial.{ReducedPolicy, as_residual}
use Rattle.model.specs.Products.{Outcome}
use Rattle.model.specs.Reading.{Parsed, refuse, got, many}
use Rattle.model.specs.Tight.{kind_bits, loose_c, loose, UnderNumber}
use Rattle.laws.specs.Size.{words_c, words_cs, words as words_t, wordss as words_ts, words_r}
use Rattle.unpack.specs.Nodes.{lead_in}
use Rattle.unpack.specs.declared.Found.{Found}

-- Why bits that are needed up to `at` are turned back.
abbrev pub ended : List ℕ → ℕ → Option ℕ
ended run at = cond (ltb (length run) at) (some 19) none

-- The first bits of a node, if its kind is there.
abbrev pub lead_read : List ℕ → Result ℕ ℕ
lead_read bs = cond (leb kind_bits (length bs)) (Ok (lead_in bs)) (Err 19)

-- How many words what was read takes, after so many.
abbrev pub sized : {A : Type 0} → (A → ℕ) → ℕ → Parsed A → Parsed ℕ
sized size words (refuse n) = refuse n
sized size words (got a bs) = got (words + size a) bs

abbrev pub Says : List ℕ → ℕ → Parsed ℕ → Result Found ℕ → Type 0
Says run from asked (Ok f) = (asked ≡ got f.words (drop f.at run)) × (f.at ≤ length run) × (f.words ≤ f.at) × (from ≤ f.at)
Says run from asked (Err n) = asked ≡ refuse n

-- Why the words of what was read are turned back: it was itself, or they are too many.
abbrev pub judged : Parsed ℕ → ℕ → ℕ → Option ℕ
judged (refuse n) most room = some n
judged (got words bs) most room = cond (leb words most && leb words room) none (some 11)

-- ---- what is asked of conditions and of policies, after so many words
abbrev pub one_condition : ℕ → ℕ → List ℕ → Parsed ℕ
one_condition d w bs = sized words_c w (loose_c d bs)

abbrev pub all_conditions : ℕ → ℕ → List ℕ → ℕ → Parsed ℕ
all_conditions d w bs n = sized words_cs w (many cnil ccons (loose_c d) n bs)

abbrev pub one_policy : Bool → ℕ → ℕ → List ℕ → Parsed ℕ
one_policy res d w bs = sized words_t w (loose product_sets.value res d bs)

abbrev pub all_policies : Bool → ℕ → ℕ → List ℕ → ℕ → Parsed ℕ
all_policies res d w bs n = sized words_ts w (many pnil pcons (loose product_sets.value res d) n bs)

abbrev pub words_b : ReducedPolicy Outcome → ℕ
words_b b = words_t (as_residual b)

abbrev pub words_u : UnderNumber Outcome → ℕ
words_u u = words_r u.held
