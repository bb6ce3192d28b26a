use Rattle.std.proofs.lemmas.Nat.{be_bytes_4}
use Rattle.image.proofs.Bytes.{joined_bytes}
use Rattle.image.proofs.numbers.U32Number4.join.Goals as goal

pub returns-clause-number : goal.returns-clause-number
returns-clause-number c = (joined_bytes 4 _ _ c.from_be_bytes.type_inv (be_bytes_4 _ _ c.told-octets c.fits-octets c.from_be_bytes.ensures)).0

pub returns-clause-octets : goal.returns-clause-octets
returns-clause-octets c = (joined_bytes 4 _ _ c.from_be_bytes.type_inv (be_bytes_4 _ _ c.told-octets c.fits-octets c.from_be_bytes.ensures)).1
