use Rattle.std.proofs.Common.{◌≡◌, ◌∙◌, [], Some, refl, sym, ap, subst, ◌≤◌, arith}
use Rattle.gd_readable.specs.Standing.{left_of}
use Rattle.gd_session.specs.Listing.{Lists}
use Rattle.gd_session.specs.State.{Text, seen}
use Rattle.gd_session.specs.declared.reply.Reply.{Reply}
use Rattle.gd_session.specs.declared.reply.Reply.TheVariants.{SinkFault}
use Rattle.gd_session.proofs.Listings.{cause_by, listed_by, page_empty, page_some, sink_listed, waits_from, wrote_all, wrote_front, wrote_rest}
use Rattle.gd_session.proofs.Saying.{rose_later}
use Rattle.gd_session.proofs.Counting.{list_counts, out_as, out_by, out_stays}
use Rattle.gd_session.proofs.session.Session.list_walk.Goals as goal

pub returns-in-Ok : goal.returns-in-Ok
returns-in-Ok g c =
    let e = c.put_lines-reply.ensures in
    let r = c.put_lines-reply.result in
    record {
      asks = e.asks;
      later = omega (arith, e.later, c.in-Ok.ensures.cause.later);
      kept = g.met.O.Sink.kept_on c.args.out.now c.put_lines-reply.new.out c.flush.new.out e.kept c.flush.ensures.kept;
      listed = λ d x told is.
          let w = waits_from (seen c.args.self.now) (left_of x.bytes c.args.walk.now) r _ _ _ _ c.new-page.ensures c.in_default.not-SinkFault (e.lines d x told is) in
          listed_by (seen c.args.self.now) (left_of x.bytes c.args.walk.now) r _ _ c.in_default.not-SinkFault (wrote_rest (seen c.args.self.now) (left_of x.bytes c.args.walk.now) r _ _ _ _ c.in-Ok.ensures.bytes w);
      cause = cause_by r _ _ _ _ _ c.in_default.not-SinkFault e.cause;
      counted = list_counts r _ _ e.asks.later e.counted;
      sink = out_by r _ _ c.in_default.not-SinkFault (c.in-Ok.ensures.cause.answered ∙ out_stays r _ _ c.in_default.not-SinkFault e.sink);
    }

pub returns-in-Err : goal.returns-in-Err
returns-in-Err g c =
    let e = c.put_lines-reply.ensures in
    let r = c.put_lines-reply.result in
    record {
      asks = e.asks;
      later = omega (arith, e.later, c.in-Err.ensures.cause.later);
      kept = g.met.O.Sink.kept_on c.args.out.now c.put_lines-reply.new.out c.flush.new.out e.kept c.flush.ensures.kept;
      listed = λ d x told is.
          let w = waits_from (seen c.args.self.now) (left_of x.bytes c.args.walk.now) r _ _ _ _ c.new-page.ensures c.in_default.not-SinkFault (e.lines d x told is) in
          wrote_front (seen c.args.self.now) (left_of x.bytes c.args.walk.now) r _ _ _ _ (page_some _ (sym c.is_empty.ensures ∙ c.if-is_empty.false)) c.in-Err.ensures.bytes w;
      cause = rose_later _ _ _ e.later c.in-Err.ensures.cause.failed;
      counted = e.asks.later;
      sink = rose_later _ _ _ e.later c.in-Err.ensures.cause.failed;
    }

pub returns-in-SinkFault-clause-listed : goal.returns-in-SinkFault-clause-listed
returns-in-SinkFault-clause-listed g c =
    λ d x told is. sink_listed (seen c.args.self.now) (left_of x.bytes c.args.walk.now) c.put_lines-reply.result _ _ _ _ c.in-SinkFault.is c.new-page.ensures (c.put_lines-reply.ensures.lines d x told is)

pub returns-then-is_empty : goal.returns-then-is_empty
returns-then-is_empty g c =
    let e = c.put_lines-reply.ensures in
    let r = c.put_lines-reply.result in
    record {
      asks = e.asks;
      later = e.later;
      kept = e.kept;
      listed = λ d x told is.
          let w = waits_from (seen c.args.self.now) (left_of x.bytes c.args.walk.now) r _ _ _ _ c.new-page.ensures c.in_default.not-SinkFault (e.lines d x told is) in
          listed_by (seen c.args.self.now) (left_of x.bytes c.args.walk.now) r _ _ c.in_default.not-SinkFault (wrote_all (seen c.args.self.now) (left_of x.bytes c.args.walk.now) r _ _ _ (page_empty _ (sym c.is_empty.ensures ∙ c.if-is_empty.true)) w);
      cause = e.cause;
      counted = list_counts r _ _ e.asks.later e.counted;
      sink = e.sink;
    }

pub returns-in-SinkFault-clause-counted : goal.returns-in-SinkFault-clause-counted
returns-in-SinkFault-clause-counted g c = c.put_lines-reply.ensures.asks.later

pub returns-in-SinkFault-clause-sink : goal.returns-in-SinkFault-clause-sink
returns-in-SinkFault-clause-sink g c = out_as SinkFault c.put_lines-reply.result _ _ (sym c.in-SinkFault.is) c.put_lines-reply.ensures.sink
