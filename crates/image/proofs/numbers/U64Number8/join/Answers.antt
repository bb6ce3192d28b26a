use Rattle.std.proofs.lemmas.Nat.{be_bytes_8}
use Rattle.image.proofs.Bytes.{joined_bytes}
use Rattle.image.proofs.numbers.U64Number8.join.Goals as goal

pub returns-clause-number : goal.returns-clause-number
returns-clause-number c = (joined_bytes 8 _ _ c.from_be_bytes.type_inv (be_bytes_8 _ _ c.told-octets c.fits-octets c.from_be_bytes.ensures)).0

pub returns-clause-octets : goal.returns-clause-octets
returns-clause-octets c = (joined_bytes 8 _ _ c.from_be_bytes.type_inv (be_bytes_8 _ _ c.told-octets c.fits-octets c.from_be_bytes.ensures)).1
