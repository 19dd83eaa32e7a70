-- What a sender of blocks does with a block that is put to it (RFC 4571, 2, is the log that it
-- writes). It is ours.
use Rattle.std.specs.Prelude.{◌≡◌, ◌⊎◌, ℕ, List, Option}
use Rattle.amr_frame.specs.Frames.{Frame}
use Rattle.amr_io.specs.declared.sink.Sink as sink
use Rattle.amr_sender.specs.Sender.{TakesBlock}
use Rattle.convert_engine.specs.declared.block_sender.BlockSender.{BlockSender}
use Rattle.stream_engine.specs.Sends.{SendsBlock, SendsBlockPart}

-- it still sends by the same sender, with the same plan, to the same output, which writes to the
-- same object, and what stands beside the octets is as before
pub record Stays {O : Type 0} (aside : O → Option (List (List ℕ × List ℕ)))
    (alike : O → O → Type 0) (s t : BlockSender O) : Type 0 where
  pub sender : t.sender.ghost_name ≡ s.sender.ghost_name
  pub output : t.output.ghost_name ≡ s.output.ghost_name
  pub plan : t.sender.now.plan ≡ s.sender.now.plan
  pub object : alike s.output.now t.output.now
  pub beside : aside t.output.now ≡ aside s.output.now

-- the block was sent
pub record Sends {O : Type 0} (k : sink.Ghosts O) (s : BlockSender O) (block : List Frame)
    (t : BlockSender O) : Type 0 where
  pub takes : TakesBlock s.sender.now
  pub sent : SendsBlock s.sender.now t.sender.now block (k.got s.output.now) (k.got t.output.now)
  pub plan : t.sender.now.plan ≡ s.sender.now.plan

-- the sender takes no more blocks, and nothing was done
pub record PassesOver {O : Type 0} (s t : BlockSender O) : Type 0 where
  pub full : TakesBlock s.sender.now → ⊥
  pub still : t ≡ s

-- the block was sent, or the sender takes no more
abbrev pub Puts : {O : Type 0} → sink.Ghosts O → BlockSender O → List Frame → BlockSender O
    → Type 0
Puts k s block t = Sends k s block t ⊎ PassesOver s t

-- a part of what the block makes of the log was put out
pub record PutsPart {O : Type 0} (k : sink.Ghosts O) (s : BlockSender O) (block : List Frame)
    (t : BlockSender O) : Type 0 where
  pub takes : TakesBlock s.sender.now
  pub part : SendsBlockPart s.sender.now block (k.got s.output.now) (k.got t.output.now)
