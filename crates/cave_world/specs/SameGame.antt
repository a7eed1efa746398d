-- When two states are the same game.
use Rattle.std.specs.Prelude.{◌≡◌, ℕ}
use Rattle.cave_world.specs.declared.state.State.{State}
use Rattle.world_objects.specs.Lists.{halves_at}

-- everything but the lists of objects is equal, and so is the list of each place
pub record IsSameGame (a b : State) : Type 0 where
  pub trail : a.trail ≡ b.trail
  pub spots : a.objects.first ≡ b.objects.first
  pub anchors : a.objects.second ≡ b.objects.second
  pub props : a.objects.props ≡ b.objects.props
  pub lists : (place : ℕ) → halves_at place a.objects.lists ≡ halves_at place b.objects.lists
  pub visits : a.visits ≡ b.visits
  pub lamp : a.lamp ≡ b.lamp
  pub closing : a.closing ≡ b.closing
  pub tallies : a.tallies ≡ b.tallies
  pub talk : a.talk ≡ b.talk
  pub dwarves : a.dwarves ≡ b.dwarves
  pub hints : a.hints ≡ b.hints
  pub question : a.question ≡ b.question
  pub ending : a.ending ≡ b.ending
  pub stream : a.stream ≡ b.stream
