-- The paper's small inputs and those of requests Q-9, Q-3, Q-6 and Q-7, which the rows of the table and the wrong boards share.
use Rattle.std.specs.Prelude.{ℕ, List, [], ◌∷◌, ◌++◌, replicate, set}
use Rattle.shape.specs.declared.Shape.{Shape}

-- N 6: the first three sectors are bad, and three blocks are left
abbrev pub few : List ℕ
few = 0 ∷ 1 ∷ 2 ∷ []

-- the bad sectors of source document 001's chart
abbrev pub chart : List ℕ
chart = 3 ∷ 7 ∷ 60 ∷ 61 ∷ []

-- C 2, H 2, S 5; each head is a group, and the second starts two sectors after the first
abbrev pub small : Shape
small = record { cylinders = 2; heads = 2; sectors = 5; groups = 2; tracks = 1; offset = 2 }

-- the table of that drive at r 2: eight spares, which hold these words, and null beyond them
abbrev pub eight : ℕ → ℕ → ℕ → ℕ → ℕ → ℕ → ℕ → ℕ → List ℕ
eight w0 w1 w2 w3 w4 w5 w6 w7 = w0 ∷ w1 ∷ w2 ∷ w3 ∷ w4 ∷ w5 ∷ w6 ∷ w7 ∷ replicate 120 0x80000000

-- scratch for it: a number for each spare
abbrev pub eight_zeros : List ℕ
eight_zeros = replicate 8 0

-- the table with words at places 3, 4 and 5, and the others free
abbrev pub holding : ℕ → ℕ → ℕ → List ℕ
holding third fourth fifth = eight 0 0 0 third fourth fifth 0 0

-- no block is replaced; then block 7 is, at its primary; then 8 and then 6, elsewhere
abbrev pub none_replaced : List ℕ
none_replaced = holding 0 0 0

abbrev pub after_seven : List ℕ
after_seven = holding 0 0x20000007 0

abbrev pub after_eight : List ℕ
after_eight = holding 0 0x20000007 0x30000008

abbrev pub after_six : List ℕ
after_six = holding 0x30000006 0x20000007 0x30000008

-- or block 7 is replaced again and again: after it was, blocks 7, 8, 7, 6, 7, 0 and 7 go to places 5, 3, 6, 2, 7, 0 and 1
abbrev pub seven_on_five : List ℕ
seven_on_five = eight 0 0 0 0 0x40000000 0x30000007 0 0

abbrev pub eight_on_three : List ℕ
eight_on_three = eight 0 0 0 0x30000008 0x40000000 0x30000007 0 0

abbrev pub seven_on_six : List ℕ
seven_on_six = eight 0 0 0 0x30000008 0x40000000 0x40000000 0x30000007 0

abbrev pub six_on_two : List ℕ
six_on_two = eight 0 0 0x30000006 0x30000008 0x40000000 0x40000000 0x30000007 0

abbrev pub seven_on_seven : List ℕ
seven_on_seven = eight 0 0 0x30000006 0x30000008 0x40000000 0x40000000 0x40000000 0x30000007

abbrev pub zero_on_zero : List ℕ
zero_on_zero = eight 0x20000000 0 0x30000006 0x30000008 0x40000000 0x40000000 0x40000000 0x30000007

abbrev pub seven_on_one : List ℕ
seven_on_one = eight 0x20000000 0x30000007 0x30000006 0x30000008 0x40000000 0x40000000 0x40000000 0x40000000

-- block 7 on place 5 with its primary, place 4, free
abbrev pub seven_past_four : List ℕ
seven_past_four = eight 0 0 0 0 0 0x30000007 0 0

-- C 2, H 4, S 5, with these groups, tracks of a group and offset
abbrev pub four_heads : ℕ → ℕ → ℕ → Shape
four_heads groups tracks offset = record { cylinders = 2; heads = 4; sectors = 5; groups = groups; tracks = tracks; offset = offset }

-- two groups of two tracks, the second three sectors after the first
abbrev pub two_groups : Shape
two_groups = four_heads 2 2 3

-- the largest drive, each head a group, with the largest offset
abbrev pub largest : Shape
largest = record { cylinders = 4096; heads = 64; sectors = 64; groups = 64; tracks = 1; offset = 63 }

-- C 260, H 1, S 3
abbrev pub tall : Shape
tall = record { cylinders = 260; heads = 1; sectors = 3; groups = 1; tracks = 1; offset = 0 }

-- its table at r 1, of three table blocks: 260 spares, all unusable but one place, which holds this word
abbrev pub tall_with : ℕ → ℕ → List ℕ
tall_with place word = set (replicate 260 0x40000000 ++ replicate 124 0x80000000) place word
