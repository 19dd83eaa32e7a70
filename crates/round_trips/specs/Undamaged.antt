-- Views of which no frame is damaged (RFC 4867, 4.4.2.1).
use Rattle.std.specs.Prelude.{◌≡◌, ℕ, ◌<◌, false, length}
use Rattle.amr_toc.specs.declared.view.PayloadView.{PayloadView}
use Rattle.amr_toc.specs.Viewed.{is_damaged, viewed}

-- no frame has a CRC that differs
pub record IsUndamaged (view : PayloadView) : Type 0 where
  pub none : (k : ℕ) → k < length (viewed view).frames → is_damaged view k ≡ false
