-- What a writer of storage files got of blocks, as octets: ours.
use Rattle.std.specs.Prelude.{◌≡◌, ◌++◌, ℕ, List, Option, flat_map}
use Rattle.std.specs.Io.KnownBytes.{Appends}
use Rattle.amr_frame.specs.Frames.{Frame}
use Rattle.spec_store.specs.StorageFile.{block_text}

-- a sink got the octets of the blocks that a longer list has more
pub record Gained (got got' : Option (List ℕ)) (less more : List (List Frame)) : Type 0 where
  pub blocks : List (List Frame)
  pub octets : Appends got got' (flat_map block_text blocks)
  pub more_by : more ≡ less ++ blocks

-- a sink got a front of the octets of the blocks that a longer list has more
pub record GainedPart (got got' : Option (List ℕ)) (less more : List (List Frame)) : Type 0 where
  pub front : List ℕ
  pub rest : List ℕ
  pub blocks : List (List Frame)
  pub octets : Appends got got' front
  pub split : flat_map block_text blocks ≡ front ++ rest
  pub more_by : more ≡ less ++ blocks
