use Rattle.std.proofs.Common.{◌≡◌, ◌+◌, ◌-◌, ◌%◌, ap, ◌∙◌, subst, sym, length, arith}
use Rattle.std.specs.Prelude.{slice_index, false, true}
use Rattle.spec_store.specs.StorageFile.{single, multi}
use Rattle.spec_store.specs.StorageReading.{begins_with}
use Rattle.amr_store.specs.Sights.{HeaderShows, told_sight}
use Rattle.amr_store.proofs.HeaderShown.{header_told, one_header, several_header}
use Rattle.amr_store.proofs.header.header_sight.Goals as goal

pub returns-then-starts_with : goal.returns-then-starts_with
returns-then-starts_with c =
    let codec = c.args.codec in
    let file = c.args.octets.now in
    let magic = c.multichannel_magic-several.ensures in
    let is : begins_with (multi codec) file ≡ true = ap (λ m. begins_with m file) (sym magic)
    ∙ sym c.starts_with.ensures.value ∙ c.if-starts_with.true in
    let size = ap length magic in
    let h = several_header codec file is (omega (arith, size, c.if-octets-len.false)) in
    let shows = header_told codec c.args.channels file _ _ h in
    let place : length (multi codec) + 3 ≡ length c.multichannel_magic-several.result.now + 4 - 1 = omega
    (arith, size) in
    let less = sym size in
    subst (HeaderShows codec c.args.channels file)
    ((λ i. told_sight (slice_index file (place i) % 16) c.args.channels (less i + 4)) ∙ sym c.told.ensures) shows

pub returns-then-starts_with-2 : goal.returns-then-starts_with-2
returns-then-starts_with-2 c =
    let codec = c.args.codec in
    let file = c.args.octets.now in
    let none : begins_with (multi codec) file ≡ false = ap (λ m. begins_with m file)
    (sym c.multichannel_magic-several.ensures) ∙ sym c.starts_with.ensures.value ∙ c.if-starts_with.false in
    let magic = c.magic-one.ensures in
    let is : begins_with (single codec) file ≡ true = ap (λ m. begins_with m file) (sym magic)
    ∙ sym c.starts_with-2.ensures.value ∙ c.if-starts_with-2.true in
    let size = ap length magic in
    let h = one_header codec file none is (let b = c.starts_with-2.ensures.bound c.if-starts_with-2.true in omega
    (arith, size, b)) in
    subst (HeaderShows codec c.args.channels file)
    (ap (told_sight 1 c.args.channels) (sym size) ∙ sym c.told-then-starts_with-2.ensures)
    (header_told codec c.args.channels file 1 (length (single codec)) h)
