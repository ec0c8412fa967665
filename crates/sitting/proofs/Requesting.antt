-- A request step by step: each number, the words and the table are there, or the listing is a refusal. Assumes nothing.
use mathlib.Core.Path.{◌≡◌, refl, sym, ◌∙◌, ap}
use mathlib.Core.Bool.{Bool, true, false, ◌&&◌}
use mathlib.Core.List.{List}
use Prim.Native.Nat.{ℕ, ◌*◌, ◌≤◌, ◌<◌}
use native.Mathlib.Omega.{arith}
use borrow.Author.Tests.{le-leb, lt-leb, ltb-true, ltb-false}
use lib.Dec.{ltb, leb}
use lib.ListN.{length, take, drop}
use Rattle.model.specs.Facts.{table_bytes, known_facts, table_fault}
use Rattle.model.specs.Reading.{refuse, got}
use Rattle.model.specs.Listing.{refused_text, number_from, words_from, bytes_from, checked, on_bytes, unless_refused, sitting}
use Rattle.listing.specs.Inputs.{WordsRead}
use Rattle.listing.specs.InputLaws.{number_short, words_short, bytes_short, bytes_there}
use Rattle.sitting.specs.Requests.{from_table}

abbrev from_words : ℕ → List ℕ → List ℕ
from_words count after = unless_refused (leb 1 count && leb count 4096) 1 (on_bytes (words_from count after) from_table)

-- ---- the words
module _ (input : List ℕ) where
  pub no_count : length input < 2 → sitting input ≡ refused_text 6
  no_count h = ap (λ p. on_bytes p from_words) (number_short 0 2 input h)

  module _ {count : ℕ} {after : List ℕ} (e : number_from 0 2 input ≡ got count after) where
    from_count : sitting input ≡ from_words count after
    from_count = ap (λ p. on_bytes p from_words) e

    pub no_words : count ≡ 0 → sitting input ≡ refused_text 1
    no_words h = from_count ∙ ap (λ n. unless_refused (leb 1 n && leb n 4096) 1 (on_bytes (words_from n after) from_table)) h

    long_and : (b : Bool) → (b && false) ≡ false
    long_and true = refl
    long_and false = refl

    pub many_words : 4096 < count → sitting input ≡ refused_text 1
    many_words h =
        from_count ∙ ap (λ b. unless_refused (leb 1 count && b) 1 (on_bytes (words_from count after) from_table)) (lt-leb count 4096 h)
        ∙ ap (λ b. unless_refused b 1 (on_bytes (words_from count after) from_table)) (long_and (leb 1 count))

    module _ (some_words : 1 ≤ count) (few : count ≤ 4096) where
      in_range : from_words count after ≡ on_bytes (words_from count after) from_table
      in_range =
          let long : (leb 1 count && leb count 4096) ≡ true = rw (le-leb 1 count some_words, le-leb count 4096 few) in
          ap (λ b. unless_refused b 1 (on_bytes (words_from count after) from_table)) long

      pub words_cut : (b : Bool) (before words : List ℕ) → length before ≡ count → WordsRead after before words b → b ≡ false → sitting input ≡ refused_text 6
      words_cut false before words n h e = from_count ∙ in_range ∙ ap (λ p. on_bytes p from_table) (rw n at h.0)
      words_cut true before words n h e = cc

      pub words_read : (b : Bool) (before words : List ℕ) → length before ≡ count → WordsRead after before words b → b ≡ true → sitting input ≡ from_table words (drop (4 * count) after)
      words_read true before words n h e = from_count ∙ in_range ∙ ap (λ p. on_bytes p from_table) (rw n at h)
      words_read false before words n h e = cc

-- Words that were read are there.
pub words_long : (after before words : List ℕ) (b : Bool) → WordsRead after before words b → b ≡ true → 4 * length before ≤ length after
words_long after before words false h e = let z : ◌≡◌ {A = ℕ} 0 1 = cc in absurd (omega arith)
words_long after before words true h e = by_test (ltb (length after) (4 * length before)) refl
  where
    by_test : (t : Bool) → ltb (length after) (4 * length before) ≡ t → 4 * length before ≤ length after
    by_test false q = ltb-false (length after) (4 * length before) q
    by_test true q =
        let short : got words (drop (4 * length before) after) ≡ refuse 6 = sym h ∙ words_short (length before) after (ltb-true (length after) (4 * length before) q) in
        let z : ◌≡◌ {A = ℕ} 0 1 = cc in
        absurd (omega arith)

-- ---- the table
module _ (sheet rest : List ℕ) where
  abbrev from_bytes : ℕ → List ℕ → List ℕ
  from_bytes size table = unless_refused (leb size table_bytes) 2 (on_bytes (bytes_from size table) (λ facts _. checked (table_fault known_facts facts) sheet facts))

  pub no_size : length rest < 2 → from_table sheet rest ≡ refused_text 6
  no_size h = ap (λ p. on_bytes p from_bytes) (number_short 0 2 rest h)

  module _ {size : ℕ} {table : List ℕ} (e : number_from 0 2 rest ≡ got size table) where
    from_size : from_table sheet rest ≡ from_bytes size table
    from_size = ap (λ p. on_bytes p from_bytes) e

    pub long_table : 256 < size → from_table sheet rest ≡ refused_text 2
    long_table h = from_size ∙ ap (λ b. unless_refused b 2 (on_bytes (bytes_from size table) (λ facts _. checked (table_fault known_facts facts) sheet facts))) (lt-leb size 256 h)

    module _ (few : size ≤ 256) where
      table_fits : from_bytes size table ≡ on_bytes (bytes_from size table) (λ facts _. checked (table_fault known_facts facts) sheet facts)
      table_fits = ap (λ b. unless_refused b 2 (on_bytes (bytes_from size table) (λ facts _. checked (table_fault known_facts facts) sheet facts))) (le-leb size 256 few)

      pub table_cut : length table < size → from_table sheet rest ≡ refused_text 6
      table_cut h = from_size ∙ table_fits ∙ ap (λ p. on_bytes p (λ facts _. checked (table_fault known_facts facts) sheet facts)) (bytes_short size table h)

      pub table_read : (n : ℕ) → n ≡ size → size ≤ length table → from_table sheet rest ≡ checked (table_fault known_facts (take n table)) sheet (take n table)
      table_read n e h =
          from_size ∙ table_fits ∙ ap (λ p. on_bytes p (λ facts _. checked (table_fault known_facts facts) sheet facts)) (bytes_there size table h)
          ∙ ap (λ i. checked (table_fault known_facts (take i table)) sheet (take i table)) (sym e)
