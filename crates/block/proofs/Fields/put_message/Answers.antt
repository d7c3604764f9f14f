-- `put_message` meets its contract: each number stands behind the one before it.
use mathlib.Core.Path.{ap, ◌∙◌}
use mathlib.Core.List.{◌++◌}
use native.Mathlib.Omega.{arith}
use Rattle.wire.specs.Copying.{overwrite}
use Rattle.wire.specs.Packet.{bytes4}
use Rattle.wire.proofs.Copies.{overwrite_more}
use Rattle.block.proofs.Fields.put_message.Goals as goal

pub returns : goal.returns
unfolding bytes4
returns c =
    let f = c.args.self in
    let b = c.args.b.now in
    let one = bytes4 f.holder in
    let two = one ++ bytes4 f.size in
    let three = two ++ bytes4 f.done in
    let four = three ++ bytes4 f.left in
    let size = c.number_at-2.ensures ∙ ap (overwrite 16 (bytes4 f.size)) c.number_at.ensures ∙ overwrite_more 12 one (bytes4 f.size) b (omega arith) in
    let done = c.number_at-3.ensures ∙ ap (overwrite 20 (bytes4 f.done)) size ∙ overwrite_more 12 two (bytes4 f.done) b (omega arith) in
    let left = c.number_at-4.ensures ∙ ap (overwrite 24 (bytes4 f.left)) done ∙ overwrite_more 12 three (bytes4 f.left) b (omega arith) in
    c.number_at-5.ensures ∙ ap (overwrite 28 (bytes4 0)) left ∙ overwrite_more 12 four (bytes4 0) b (omega arith)
