-- What is written of a recording while more records may come.
use Rattle.std.proofs.Common.{◌≡◌, ℕ, List, ◌++◌, sym, ap, ◌∙◌, append_assoc}
use Rattle.std.specs.Prelude.{flat_map}
use Rattle.std.proofs.lemmas.List.Concat.{flat_map-append}
use Rattle.std.proofs.lemmas.List.Elements.{filter_map-append}
use Rattle.amr_frame.specs.Frames.{Frame}
use Rattle.segment_laws.proofs.Fronts.{gone_in_release, gone_stays}
use Rattle.segment_laws.proofs.Single.{same_gone, same_released}
use Rattle.segment_laws.specs.Kept.{IsFront}
use Rattle.segment_laws.specs.One.{IsOneSegment}
use Rattle.spec_record.specs.Recording.{Recording, early_of, file_of, heard}
use Rattle.spec_segments.specs.Release.{gone_out, released}
use Rattle.spec_session.specs.Packets.{Packet, packet_of}
use Rattle.spec_session.specs.Release as session
use Rattle.spec_session.specs.Session.{Rules}
use Rattle.spec_store.specs.StorageFile.{block_text, header, storage_file}

stored_front : (r : Recording) (blocks all : List (List Frame)) → IsFront blocks all →
    IsFront (storage_file r.rules.codec r.rules.channels blocks) (storage_file r.rules.codec r.rules.channels all)
stored_front r blocks all f =
    let head = header r.rules.codec r.rules.channels in (
      flat_map block_text f.0,
      ap (storage_file r.rules.codec r.rules.channels) f.1
          ∙ ap (λ t. head ++ t) (flat_map-append block_text blocks f.0)
          ∙ sym (append_assoc head (flat_map block_text blocks) (flat_map block_text f.0)),
    )

pub more_packets : (r : Recording) (records more : List (List ℕ)) → heard r
    (records ++ more) ≡ heard r records ++ heard r more
more_packets r records more = filter_map-append (packet_of r.profile r.asked) records more

-- what the first records have let out is a front of what more of them mean, by what it is of blocks
front_by : (r : Recording) (out : Rules → List Packet → List (List Frame)) (records more : List (List ℕ)) →
    IsFront (gone_out r.rules (heard r records)) (out r.rules (heard r records ++ heard r more)) →
    IsFront (early_of r records)
    (storage_file r.rules.codec r.rules.channels (out r.rules (heard r (records ++ more))))
front_by r out records more g =
    stored_front r (gone_out r.rules (heard r records)) (out r.rules (heard r (records ++ more)))
    (g.0, ap (out r.rules) (more_packets r records more) ∙ g.1)

pub early_front : (r : Recording) (records more : List (List ℕ)) →
    IsFront (early_of r records) (early_of r (records ++ more))
early_front r records more =
    front_by r gone_out records more (gone_stays r.rules (heard r records) (heard r more))

pub file_front : (r : Recording) (records more : List (List ℕ)) →
    IsFront (early_of r records) (file_of r (records ++ more))
file_front r records more =
    front_by r released records more (gone_in_release r.rules (heard r records) (heard r more))

-- of one segment both are as without segments
pub same_file : (r : Recording) (records : List (List ℕ)) → IsOneSegment r.rules (heard r records) →
    file_of r records ≡ storage_file r.rules.codec r.rules.channels (session.released r.rules (heard r records))
same_file r records e = ap (storage_file r.rules.codec r.rules.channels) (same_released r.rules (heard r records) e)

pub same_early : (r : Recording) (records : List (List ℕ)) → IsOneSegment r.rules (heard r records) →
    early_of r records ≡ storage_file r.rules.codec r.rules.channels (session.gone_out r.rules (heard r records))
same_early r records e = ap (storage_file r.rules.codec r.rules.channels) (same_gone r.rules (heard r records) e)
