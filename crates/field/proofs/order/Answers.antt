use Rattle.std.proofs.Common.{rules}
use Rattle.field.proofs.Products.{field_laws, order-255}
use Rattle.field.proofs.order.Goals as goal

pub returns : goal.returns
returns c = record { value = search rules; laws = field_laws; powers = order-255 }
