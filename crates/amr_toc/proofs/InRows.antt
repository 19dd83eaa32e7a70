-- One frame of a sorted payload (RFC 4867, 4.4.4), whose octets its rows have.
use Rattle.std.proofs.Common.{◌≡◌, ℕ, ◌+◌, ◌/◌, ◌<◌, true, List, length, get_or, refl, ap, sym, subst, ◌∙◌, arith}
use Rattle.std.specs.Prelude.{sum, ◌^◌}
use Rattle.std.proofs.lemmas.List.{length-map}
use Rattle.std.proofs.lemmas.List.Sums.{sum_by-le}
use Rattle.amr_bits.specs.Bits.{bits_at}
use Rattle.amr_frame.specs.Frames.{Frame}
use Rattle.amr_frame.specs.Tables.{octets_in}
use Rattle.amr_guard.specs.Sorting.{IsOctet}
use Rattle.amr_guard.specs.Walking.{next_place}
use Rattle.amr_guard.proofs.Counts.{next-rank}
use Rattle.amr_guard.proofs.Rows.{rank-below, robust-rank}
use Rattle.payload_laws.proofs.Formats.{aligned_of}
use Rattle.spec_payload.specs.Reading.{types}
use Rattle.amr_toc.specs.declared.entry.Entry.{Entry}
use Rattle.amr_toc.specs.declared.view.PayloadView.{PayloadView}
use Rattle.amr_toc.specs.Frames.{HasGathered, HasType}
use Rattle.amr_toc.specs.Lists.{listed, types_of}
use Rattle.amr_toc.specs.Places.{body_bit, octet_place, sizes_in}
use Rattle.amr_toc.specs.Rows.{CanGather, MovedOn}
use Rattle.amr_toc.specs.Viewed.{viewed}
use Rattle.amr_toc.specs.Walks.{RowsAt}
use Rattle.amr_toc.proofs.InView.{in_listed, in_said, octets_of_frame}
use Rattle.amr_toc.proofs.Rows.{rows_go_on}
use Rattle.amr_toc.proofs.Shown.{frame_is, length_bits, types_are}
use Rattle.amr_toc.proofs.Sizes.{listed_count, most_octets, sizes_short}
use Rattle.amr_toc.proofs.Standing.{aligned_body, aligned_need, count_at, gathered_bits, octet_sorted}

module _ (view : PayloadView) (sorted : view.profile.sorting ≡ true) where
  abbrev sizes : List ℕ
  sizes = sizes_in view.profile (types_of (listed view.toc))

  abbrev octets : List ℕ
  octets = view.octets.now

  aligned : view.profile.octet_aligned ≡ true
  aligned = (aligned_of view.profile view.valid).sorting sorted

  -- a sorted payload has few octets
  few_octets : length octets < 2 ^ 16
  few_octets =
      let p = view.profile in
      let fts = types p octets in
      let same = types_are p octets (listed view.toc) view.table in
      let front = view.behind ∙ ap (body_bit p) same ∙ aligned_body p fts aligned in
      let all = aligned_need p octets aligned view.accepted in
      let most = sum_by-le (λ (x : ℕ). x) 60 (sizes_in p fts) (sizes_short p.codec fts) in
      let long = length-map fts (octets_in p.codec) in
      let many = sym (ap length same) ∙ length-map (listed view.toc) (λ (e : Entry). e.ft) in
      let count = listed_count view.toc in
      let few = view.toc.most in
      let short = view.short in
      omega arith

  -- octet o of frame k stands in its row
  row_stands : (rows : List ℕ) (k o : ℕ) → k < length (viewed view).frames → RowsAt view k rows
      → o < octets_of_frame view k
      → (get_or rows o 0 ≡ octet_place view.profile (types view.profile octets) k o) × (get_or rows o 0 < length octets)
  row_stands rows k o h at below =
      let es = listed view.toc in
      let is = count_at view.profile octets es sizes k view.table refl (in_listed view k h) in
      let exists : IsOctet sizes k o = (is.0, subst (λ n. o < n) (sym is.1) below) in
      let rank = next-rank sizes k o in
      let there = octet_sorted view.profile octets es sizes view.body (next_place sizes k o) k o aligned sorted view.accepted
      view.table refl view.behind (rank ∙ sym (robust-rank sizes k o exists))
      (subst (λ n. n < sum sizes) (sym rank) (rank-below sizes k o exists)) in
      let row = at.next k o (omega arith) exists in
      (row ∙ there.0, subst (λ n. n < length octets) (sym row) there.1)

  module _ (k ft count : ℕ) (kind : HasType view k ft) (is : count ≡ octets_in view.profile.codec ft) where
    all_octets : count ≡ octets_of_frame view k
    all_octets =
        is ∙ ap (octets_in view.profile.codec)
        (kind.as_said ∙ ap (λ (f : Frame). f.ft) (frame_is view.profile octets k (in_said view k kind.exists)))

    -- so that its octets can be brought together
    pub can_gather : (rows : List ℕ) → RowsAt view k rows → CanGather octets count rows
    can_gather rows at =
        let few = most_octets view.profile.codec ft in
        record {
          all = at.all;
          few = omega (arith, is, few);
          within = λ o below. (row_stands rows k o kind.exists at (subst (λ n. o < n) all_octets below)).1;
          small = few_octets;
        }

    -- which then have its bits
    pub has_gathered : (rows gathered : List ℕ) → RowsAt view k rows
        → ((o : ℕ) → o < count → get_or gathered o 0 ≡ get_or octets (get_or rows o 0) 0)
        → HasGathered view k gathered
    has_gathered rows gathered at each =
        let inside = in_said view k kind.exists in
        ap (bits_at gathered 0) (length_bits view.profile octets k inside)
        ∙ gathered_bits view.profile octets gathered k aligned inside (λ o below.
        each o (subst (λ n. o < n) (sym all_octets) below)
        ∙ ap (λ n. get_or octets n 0) (row_stands rows k o kind.exists at below).0)

    -- and the rows moved on stand before the next frame
    pub rows_behind : (old new : List ℕ) → RowsAt view k old → MovedOn count old new → RowsAt view (k + 1) new
    rows_behind old new at moved =
        let there = count_at view.profile octets (listed view.toc) sizes k view.table refl (in_listed view k kind.exists) in
        rows_go_on (view.body / 8) sizes old new k count (sizes_short view.profile.codec (types_of (listed view.toc)))
        there.0 (all_octets ∙ sym there.1) at moved
