use Rattle.std.proofs.Common.{get_or}
use Rattle.declared_names.specs.declared.declarations.Kind.TheVariants as kind
use Rattle.words.specs.declared.address.Space.TheVariants as space
use Rattle.plant.specs.declared.sources.feed.Feed.{Feed}
use Rattle.plant.specs.declared.sources.feed.Origin.TheVariants as origin
use Rattle.plant.specs.Steps.Drafts.{IsPlacedBinding}
use Rattle.plant.proofs.Zips.{zip_more, at_itself}
use Rattle.plant.proofs.sources.producers.bindings.Goals as goal

any_feed : Feed
any_feed = record { place = 0; kind = kind.Bool; origin = origin.Field (record { space = space.Bit; number = 0 }) }

pub loop-feed-preserved : goal.loop-feed-preserved
unfolding any_feed
loop-feed-preserved c =
    let feeds = c.args.feeds.now in
    let i = c.loop-feed.feed-index in
    zip_more (IsPlacedBinding c.args.producers.now) feeds i c.loop-feed.bindings.items c.push.new.self.items (get_or feeds i any_feed) c.binding.result c.loop-feed-test.true
    (at_itself feeds i any_feed c.loop-feed-test.true) c.loop-feed.invariant c.binding.ensures c.in_ok-push.ensures.items
