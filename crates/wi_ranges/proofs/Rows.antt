-- Some of the first eight rows, counted from 0, and their blocks.
use Rattle.wi_ranges.proofs.Words.{◌≡◌, [], ◌∷◌, length, refl, block, blocks_within, blocks_with}

all_eight : blocks_within 0 7 3 0 ≡ block 3 0 ∷ []
unfolding blocks_within
all_eight = refl

rows_1_and_2 : blocks_within 1 2 3 0 ≡ block 0 1 ∷ block 0 2 ∷ []
unfolding blocks_within
rows_1_and_2 = refl

rows_2_to_6 : blocks_within 2 6 3 0 ≡ block 1 2 ∷ block 1 4 ∷ block 0 6 ∷ []
unfolding blocks_within
rows_2_to_6 = refl

looked_at : length (blocks_with 1048575 20 0) ≡ 21
unfolding blocks_with
looked_at = refl
