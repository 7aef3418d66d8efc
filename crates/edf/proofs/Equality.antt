-- The document's equality: a book fits exactly if by no instant to come more is owed than there is time until then.
use mathlib.Core.Logic.{◌↔◌}
use Rattle.edf.specs.Book.{Book, plans}
use Rattle.edf.specs.Fits.{Fits}
use Rattle.edf.specs.Owed.{Room}
use Rattle.edf.specs.Order.{InOrder}
use Rattle.edf.specs.Load.{Light}
use Rattle.edf.proofs.Counted.{fits_has_room}
use Rattle.edf.proofs.Service.{room_fits}

pub fits_iff_room : (b : Book) → InOrder b → Light (plans b.feeds) → Fits b ↔ Room b
fits_iff_room b o l = (fits_has_room b o, λ r. room_fits b (record { order = o; room = r; light = l }))
