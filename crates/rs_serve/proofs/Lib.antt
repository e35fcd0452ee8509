mod HallLemmas
mod ListLemmas
mod MeetLemmas
mod OneLemmas
mod ReturnLemmas
mod RunLemmas
mod StaffLemmas
