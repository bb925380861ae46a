mod BasicLemmas
mod WayLemmas
mod SideLemmas
mod OnTheWay
