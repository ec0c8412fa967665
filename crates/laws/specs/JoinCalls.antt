-- The numbers with which a join of two tables may be refused. Request 2.
use Rattle.std.specs.Prelude.{List, [], ◌∷◌, ℕ}

-- ---- only 2, 3, 14 and 11 occur, and what is written has the longer length
abbrev pub join_causes : List ℕ
join_causes = 2 ∷ 3 ∷ 14 ∷ 11 ∷ []
