-- Payloads of one channel, without interleaving and with it.
use Rattle.std.proofs.Common.{◌≡◌, ℕ, ◌*◌, ◌≤◌, length, sym, ap, subst, arith, Option, None, Some}
use Rattle.std.specs.Prelude.{IsTrue}
use Rattle.std.specs.List.{AllByRecursion}
use Rattle.std.proofs.lemmas.List.{length-map}
use Rattle.amr_frame.specs.Blocks.{frames_of}
use Rattle.amr_frame.specs.Cells.{frame_of}
use Rattle.amr_frame.specs.declared.cell.Cell.{Cell}
use Rattle.amr_frame.specs.declared.profile.Profile.{Profile}
use Rattle.amr_frame.specs.Frames.{IsFrame}
use Rattle.amr_frame.specs.Profiles.{group_bound}
use Rattle.amr_toc.specs.declared.payload.Payload.{Payload}
use Rattle.amr_toc.specs.Payloads.{IsCarried, meant}
use Rattle.spec_payload.specs.Values.{FitsGroup}

pub carried : (p : Profile) (payload : Payload) → p.channels ≡ 1 → p.max_blocks ≡ 64 → p.interleaving ≡ None → payload.cmr ≤ 15 → payload.stride ≡ 1 → payload.index ≡ 0
    → 1 ≤ length payload.cells.now → length payload.cells.now ≤ 64 → AllByRecursion (λ (cell : Cell). IsTrue cell.present) payload.cells.now → AllByRecursion (IsFrame p.codec) (frames_of payload.cells.now) → IsCarried p payload
carried p payload one most none cmr stride index some few present frames =
    let cells = payload.cells.now in
    let size = length-map cells frame_of in
    record {
      present = present;
      value = record {
        cmr = omega arith;
        blocks = length cells;
        some = some;
        most = omega arith;
        whole = let e : length cells * p.channels ≡ length cells * 1 = ap (λ (n : ℕ). length cells * n) one in omega arith;
        group = subst (λ (o : Option ℕ). FitsGroup (group_bound o) (length cells) (meant payload)) (sym none) (stride, index);
        frames = frames;
      };
    }

pub carried_in_group : (p : Profile) (payload : Payload) → p.channels ≡ 1 → p.max_blocks ≡ 64 → p.interleaving ≡ Some 4 → payload.cmr ≤ 15 → payload.stride ≡ 2 → payload.index ≡ 1
    → length payload.cells.now ≡ 1 → AllByRecursion (λ (cell : Cell). IsTrue cell.present) payload.cells.now → AllByRecursion (IsFrame p.codec) (frames_of payload.cells.now) → IsCarried p payload
carried_in_group p payload one most group cmr stride index single present frames =
    let size = length-map payload.cells.now frame_of in
    record {
      present = present;
      value = record {
        cmr = omega arith;
        blocks = 1;
        some = omega arith;
        most = omega arith;
        whole = omega arith;
        group = subst (λ (o : Option ℕ). FitsGroup (group_bound o) 1 (meant payload)) (sym group) (omega arith, omega arith, omega arith, omega arith);
        frames = frames;
      };
    }
