-- The words that a tree or a record takes are as many as `words` and `words_r` say.
use Rattle.std.specs.Prelude.{◌≡◌, refl, List, [], ◌∷◌, map, ℕ, ◌≤◌, length}
use Rattle.std.proofs.Common.{arith, length-append}
use Rattle.std.proofs.lemmas.List.{length-map}
use Rattle.model.specs.Fields.{words_for, per_word, pack}
use Rattle.model.specs.Condition.{Condition, always, never, has, not_c, all_c, any_c, Conditions, cnil, ccons}
use Rattle.model.specs.Decision.{Decision, permits, denies}
use Rattle.model.specs.Policy.{Policy, permit, deny, grant, all, any, or_else, stored, Policies, pnil, pcons}
use Rattle.model.specs.Record.{Record, tree}
use Rattle.model.specs.Writing.{obligation_bits, entry_bits, entry_field, encode_c, encode_cs, encode_d, encode, encodes, encode_r, numbered}
use Rattle.laws.proofs.WordLaws.{length_packed}
use Rattle.laws.specs.Size.{words_c, words_cs, words_d, words, wordss, words_r}

-- Every policy takes a word.
pub some_words : {O : Type 0} (t : Policy O) → 1 ≤ words t
some_words (permit o) = omega arith
some_words deny = omega arith
some_words (grant g c) = omega arith
some_words (all ts) = omega arith
some_words (any ts) = omega arith
some_words (or_else a b) = omega arith
some_words (stored (permits p)) = omega arith
some_words (stored (denies d)) = omega arith

pub length_pack : (width : ℕ) (vs : List ℕ) → length (pack width vs) ≡ words_for (per_word width) (length vs)
length_pack width vs = length_packed width (per_word width) (words_for (per_word width) (length vs)) vs

mutual
  pub length_encode_c : (c : Condition) → length (encode_c c) ≡ words_c c
  length_encode_c always = omega arith
  length_encode_c never = omega arith
  length_encode_c (has f) = omega arith
  length_encode_c (not_c c) = omega (arith, length_encode_c c)
  length_encode_c (all_c cs) = omega (arith, length_encode_cs cs)
  length_encode_c (any_c cs) = omega (arith, length_encode_cs cs)

  pub length_encode_cs : (cs : Conditions) → length (encode_cs cs) ≡ words_cs cs
  length_encode_cs cnil = omega arith
  length_encode_cs (ccons c cs) = omega (arith, length-append (encode_c c) (encode_cs cs), length_encode_c c, length_encode_cs cs)

module _ {O : Type 0} (number : O → ℕ) where
  pub length_encode_d : (d : Decision O) → length (encode_d number d) ≡ words_d d
  length_encode_d (permits p) = omega (arith, length-append (pack obligation_bits p.obligations) (pack entry_bits p.facts), length_pack obligation_bits p.obligations, length_pack entry_bits p.facts)
  length_encode_d (denies d) = omega (arith, length_pack entry_bits d.facts)

  mutual
    pub length_encode : (t : Policy O) → length (encode number t) ≡ words t
    length_encode (permit o) = omega arith
    length_encode deny = omega arith
    length_encode (grant g c) = omega (arith, length-append (pack obligation_bits g.obligations) (encode_c c), length_pack obligation_bits g.obligations, length_encode_c c)
    length_encode (all ts) = omega (arith, length_encodes ts)
    length_encode (any ts) = omega (arith, length_encodes ts)
    length_encode (or_else a b) = omega (arith, length-append (encode number a) (encode number b), length_encode a, length_encode b)
    length_encode (stored d) = length_encode_d d

    pub length_encodes : (ts : Policies O) → length (encodes number ts) ≡ wordss ts
    length_encodes pnil = omega arith
    length_encodes (pcons t ts) = omega (arith, length-append (encode number t) (encodes number ts), length_encode t, length_encodes ts)

  pub length_encode_r : (r : Record O) → length (encode_r number r) ≡ words_r r
  length_encode_r r = omega (arith, length-append (pack entry_bits (map entry_field r.log)) (encode number (tree r)), length_pack entry_bits (map entry_field r.log), length-map r.log entry_field, length_encode (tree r))

-- Its number takes no words.
pub length_numbered : (n : ℕ) (ws : List ℕ) → length (numbered n ws) ≡ length ws
length_numbered n [] = refl
length_numbered n (w ∷ ws) = omega arith
