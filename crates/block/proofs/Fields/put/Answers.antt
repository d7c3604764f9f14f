-- `put` meets its contract: each number stands behind the one before it, from the front on, and nothing behind the last.
use mathlib.Core.Path.{ap, ◌∙◌}
use native.Mathlib.Omega.{arith}
use mathlib.Core.List.{[], ◌∷◌, ◌++◌}
use Rattle.wire.specs.Copying.{overwrite}
use Rattle.wire.specs.Packet.{bytes4}
use Rattle.wire.proofs.Copies.{onto_more}
use Rattle.block.specs.Block.{mark0, mark1, bytes_of}
use Rattle.block.proofs.Blocks.{bytes_length, over_all}
use Rattle.block.proofs.Fields.put.Goals as goal

pub returns : goal.returns
unfolding bytes_of bytes4
returns c =
    let a = c.args in
    let b = a.b.now in
    let f = a.self in
    let one = mark0 ∷ mark1 ∷ f.phase ∷ f.command ∷ [] in
    let two = one ++ bytes4 f.given in
    let three = two ++ bytes4 f.ticket in
    let given = c.number_at.ensures ∙ ap (overwrite 4 (bytes4 f.given)) c.put_mark.ensures ∙ onto_more one (bytes4 f.given) b in
    let ticket = c.number_at-2.ensures ∙ ap (overwrite 8 (bytes4 f.ticket)) given ∙ onto_more two (bytes4 f.ticket) b in
    c.put_message.ensures ∙ ap (overwrite 12 _) ticket ∙ onto_more three _ b ∙ over_all (bytes_of f) b (omega (arith, bytes_length f))
