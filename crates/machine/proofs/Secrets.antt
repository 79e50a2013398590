-- What is certified keeps secrets. Assumes nothing.
use Rattle.agreement.specs.Agreements.{Joint}
use Rattle.machine.specs.Openings.{start}
use Rattle.machine.specs.Secrets.{NoInterference, KeepsSecrets}
use Rattle.machine.proofs.Facts.{Facts}
use Rattle.machine.proofs.Views.{view_closed, nothing_is_missing}
use Rattle.machine.proofs.Runs.{Twins, calls_twins}
use Rattle.machine.proofs.Openings.{start_sized}
use Rattle.machine.proofs.Moves.{refused_only_where_it_would_leak}
use Rattle.machine.proofs.Types.{a_run_is_its_lines}

no_interference : {J : Joint} → Facts J → NoInterference J
no_interference {J} F o one two cs alike =
    let twins : Twins J o.view (start one) (start two) = record { sized = start_sized F one; sized_too = start_sized F two; alike = alike } in
    let end = calls_twins F o.view (view_closed F o) cs (start one) (start two) twins in
    (end.0.alike, end.1)

pub keeps_secrets : {J : Joint} → Facts J → KeepsSecrets J
keeps_secrets F = record {
  no_interference = no_interference F;
  no_stricter_than_needed = refused_only_where_it_would_leak F;
  a_run_is_its_lines = a_run_is_its_lines F;
  nothing_is_missing = nothing_is_missing F;
}
