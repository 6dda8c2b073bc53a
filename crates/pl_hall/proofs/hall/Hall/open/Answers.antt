use Rattle.pl_hall.proofs.Turning.{begun_at, first_free}
use Rattle.pl_hall.proofs.hall.Hall.open.Goals as goal
