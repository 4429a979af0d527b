-- A reply, of an answer and the records that it leaves out.
use Rattle.std.specs.Prelude.{ℕ, List}
use Rattle.mr_core.specs.declared.event.Reply.{Reply}
use Rattle.mr_core.specs.declared.event.Reply.TheVariants as reply
use Rattle.mr_picture.specs.declared.entries.Answer.{Answer}
use Rattle.mr_picture.specs.declared.entries.Answer.TheVariants as answer

abbrev pub reply_of : Answer → List ℕ → Reply
reply_of (answer.Map attempt split) skips = reply.Map attempt split skips
reply_of (answer.Reduce attempt partition) skips = reply.Reduce attempt partition
reply_of answer.Wait skips = reply.Wait
reply_of (answer.Stop end) skips = reply.Stop end
reply_of (answer.Region output) skips = reply.Region output
reply_of answer.Gone skips = reply.Gone
reply_of answer.Accepted skips = reply.Accepted
reply_of answer.Ignored skips = reply.Ignored
