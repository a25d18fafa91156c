-- Whose the tickets in hand are: the book gives out such as the worker took, of the machine's blocks.
use Rattle.std.proofs.Common.{ℕ, ap}
use Rattle.machine.specs.Pages.{Residence, block_at}
use Rattle.machine.specs.Legal.{Legal}
use Rattle.machine.specs.Call.{Past}
use Rattle.book_events.specs.declared.event.Reply.{Reply}
use Rattle.book_events.specs.declared.event.Reply.TheVariants as reply
use Rattle.book_events.specs.Replies.{HandsOut}
use Rattle.legal.proofs.SoundLemmas.{block_below}
use Rattle.turns.specs.Tickets.{blocks_in, OwnReply}

pub gives_own : (past : Past) (worker : ℕ) → Legal past.state.opening past.history past.state
    → (said : Reply) → HandsOut past worker said → OwnReply worker (blocks_in past.state.opening) said
gives_own past worker legal (reply.Fetch ticket) h =
    record {
      own = h.own;
      block = block_below past.state.opening past.history past.state legal h.p ticket.block h.page h.there (ap (λ (r : Residence). block_at r) h.coming);
    }
gives_own past worker legal (reply.Out ticket) h =
    record {
      own = h.own;
      block = block_below past.state.opening past.history past.state legal h.p ticket.block h.page h.there (ap (λ (r : Residence). block_at r) h.going);
    }
gives_own past worker legal said h = tt
