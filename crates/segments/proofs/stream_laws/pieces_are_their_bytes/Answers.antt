use Rattle.segments.proofs.PieceBytes.{bytes_are}
use Rattle.segments.proofs.stream_laws.pieces_are_their_bytes.Goals as goal

pub returns : goal.returns
returns c = bytes_are
