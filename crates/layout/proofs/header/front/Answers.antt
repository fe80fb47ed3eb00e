use Rattle.layout.specs.Header.{front_bytes}
use Rattle.layout.proofs.header.front.Goals as goal

pub returns : goal.returns
unfolding front_bytes
returns c = rw (c.put_number-3.ensures, c.put_number-2.ensures, c.put_number.ensures, c.copy_from_slice.ensures.after)
