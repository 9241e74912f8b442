-- `type_lines::lines::put_head` meets its contract: pieces one after the other.
use Rattle.std.proofs.Common.{arith}
use Rattle.type_lines.proofs.LinesLaws.{head_word_put}
use Rattle.type_lines.proofs.lines.put_head.Goals as goal

pub returns : goal.returns
returns c =
    head_word_put _ _ _ _ _ _ _ c.hex_digits-digits.ensures c.put-a.ensures.value c.put-a.ensures.buffer_after c.put-b.ensures.value c.put-b.ensures.buffer_after (omega arith) _ _ _ _ _ _
    c.kind_word.ensures c.put-c.ensures.value c.put-c.ensures.buffer_after c.put.ensures.value c.put.ensures.buffer_after
